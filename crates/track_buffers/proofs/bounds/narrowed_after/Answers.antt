use Rattle.std.proofs.Common.{◌≡◌, ◌∙◌, ◌≤◌, ◌<◌, map, take, length, arith}
use Rattle.std.specs.List.{find}
use Rattle.std.proofs.lemmas.List.{length-map, length-take}
use Rattle.mse_base.specs.Spans.{has_end_after}
use Rattle.track_store.specs.declared.tracks.Track.{Track}
use Rattle.track_store.specs.Frames.{ranges_of}
use Rattle.track_buffers.specs.Buffered.{with_end, ranges_in}
use Rattle.track_buffers.proofs.FirstAndLastRange.{narrowed_more}
use Rattle.track_buffers.proofs.bounds.narrowed_after.Goals as goal

pub loop-i-preserved : goal.loop-i-preserved
loop-i-preserved g c =
    let qs = ranges_in {S = g.row.S.Denot} g.S.FrameStore.frames g.S.FrameStore.gap c.args.tracks.now.items in
    let rs = map (with_end c.args.end.now) qs in
    let long : length rs ≡ length c.args.tracks.now.items = length-map qs (with_end c.args.end.now) ∙ length-map c.args.tracks.now.items (λ (t : Track g.row.S.Denot). ranges_of (g.S.FrameStore.gap t.store) (g.S.FrameStore.frames t.store)) in
    let here : c.loop-i.i < length rs = omega (arith, c.len-i-end.ensures, c.loop-i-test.true) in
    let front : 1 ≤ length (take c.loop-i.i rs) = rw length-take (omega (arith, c.loop-i.invariant.some)) in
    record {
      held = narrowed_more (find (has_end_after c.args.t)) rs c.loop-i.i c.loop-i.span c.span_at.result c.narrowed_of_two-span.result here front c.loop-i.invariant.held c.span_at.ensures c.narrowed_of_two-span.ensures;
      some = omega arith;
    }
