use Rattle.std.proofs.Common.{◌∙◌, ◌≤◌, ◌<ℤ◌, length, arith}
use Rattle.std.proofs.lemmas.Int.{ints}
use Rattle.std.proofs.lemmas.List.{length-map}
use Rattle.track_buffers.specs.Buffered.{ranges_in}
use Rattle.track_buffers.proofs.LastingRanges.{open_lasts}
use Rattle.track_buffers.proofs.SharedRanges.{ranges_all}
use Rattle.track_buffers.proofs.watch.is_shared_up_to.Goals as goal

pub returns-then-lt : goal.returns-then-lt
returns-then-lt g c =
    let rs = ranges_in {S = g.row.S.Denot} g.S.FrameStore.frames g.S.FrameStore.gap c.args.tracks.now.items in
    let later : c.args.t <ℤ c.args.until = grind (arith, ints, c.lt.ensures, c.if-lt.true) in
    let some : 1 ≤ length rs = rw length-map (omega (arith, c.len.ensures, c.if-len-eq2.true)) in
    c.are_all_up_to.ensures ∙ open_lasts c.args.t c.args.until rs c.args.ended c.if-not-ended.true later some (ranges_all g.S.FrameStore.frames g.S.FrameStore.gap c.args.tracks.now.items c.requires.gaps_from_zero)
