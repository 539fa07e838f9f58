use Rattle.std.proofs.Common.{◌∙◌, sym}
use Rattle.track_buffers.specs.Buffered.{ranges_in}
use Rattle.track_buffers.proofs.SharedRanges.{ranges_all}
use Rattle.track_buffers.proofs.WatchedRange.{watch_stays}
use Rattle.track_buffers.proofs.watch.watch_after.Goals as goal

pub returns-in-Some-least_after : goal.returns-in-Some-least_after
returns-in-Some-least_after g c = λ rs low all changed is old.
    let F = g.S.FrameStore.frames in
    let G = g.S.FrameStore.gap in
    let ts = c.args.tracks.now.items in
    watch_stays c.in-Some.watch rs (ranges_in {S = g.row.S.Denot} F G ts) c.args.i c.in-Some-least_after.least c.args.old.now c.own_span_at-new.result low all (ranges_all F G ts c.requires.gaps_from_zero) changed (rw c.in-Some.is at is) (rw c.in-Some.is at old) c.own_span_at-new.ensures (sym c.least_after.ensures ∙ c.in-Some-least_after.is)
