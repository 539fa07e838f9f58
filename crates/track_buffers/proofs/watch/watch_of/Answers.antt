use Rattle.std.proofs.Common.{◌≡◌, ◌≤◌, ◌<◌, length, take, arith}
use Rattle.std.proofs.lemmas.List.{length-map, length-take}
use Rattle.track_store.specs.declared.tracks.Track.{Track}
use Rattle.track_store.specs.Frames.{ranges_of}
use Rattle.track_buffers.specs.Buffered.{ranges_in}
use Rattle.track_buffers.proofs.SharedRanges.{ranges_all}
use Rattle.track_buffers.proofs.Lookups.{held_first, held_more}
use Rattle.track_buffers.proofs.WatchedRange.{least_first, least_more}
use Rattle.track_buffers.proofs.watch.watch_of.Goals as goal

pub loop-i-init : goal.loop-i-init
loop-i-init g c =
    let rs = ranges_in {S = g.row.S.Denot} g.S.FrameStore.frames g.S.FrameStore.gap c.args.tracks.now.items in
    let some : 1 ≤ length rs = rw length-map c.requires.some in
    record {
      shared = held_first c.args.t rs c.own_span_at-span.result some c.own_span_at-span.ensures;
      least = least_first c.args.t rs c.own_span_at-span.result some c.own_span_at-span.ensures;
      some = omega arith;
    }

pub loop-i-preserved : goal.loop-i-preserved
loop-i-preserved g c =
    let F = g.S.FrameStore.frames in
    let G = g.S.FrameStore.gap in
    let ts = c.args.tracks.now.items in
    let rs = ranges_in {S = g.row.S.Denot} F G ts in
    let long : length rs ≡ length ts = length-map ts (λ (t : Track g.row.S.Denot). ranges_of (G t.store) (F t.store)) in
    let here : c.loop-i.i < length rs = omega (arith, c.len-i-end.ensures, c.loop-i-test.true) in
    let front : 1 ≤ length (take c.loop-i.i rs) = rw length-take (omega (arith, c.loop-i.invariant.some)) in
    record {
      shared = held_more c.args.t rs c.loop-i.i c.loop-i.span c.own_span_at-own.result c.overlap_of_two-span.result here front (ranges_all F G ts c.requires.gaps_from_zero) c.loop-i.invariant.shared c.own_span_at-own.ensures c.overlap_of_two-span.ensures;
      least = least_more c.args.t rs c.loop-i.i c.loop-i.least c.least_with-least.result c.loop-i.span c.own_span_at-own.result c.overlap_of_two-span.result here c.loop-i.invariant.least c.own_span_at-own.ensures c.overlap_of_two-span.ensures c.least_with-least.ensures.at_most;
      some = omega arith;
    }
