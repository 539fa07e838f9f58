use Rattle.std.proofs.Common.{◌<◌, ◌≤◌, ◌∙◌, List, length, arith, ap, slice_get}
use Rattle.std.specs.Option.{option_to_list}
use Rattle.std.proofs.lemmas.List.{length-map, take_all}
use Rattle.mse_base.specs.declared.span.Span.{Span}
use Rattle.mse_base.specs.Moments.{greatest}
use Rattle.track_buffers.specs.Buffered.{last_end, last_ends, ranges_in}
use Rattle.track_buffers.proofs.Loops.{highest_more}
use Rattle.track_buffers.proofs.SharedRanges.{end_here}
use Rattle.track_buffers.proofs.buffered.highest_range_end.Goals as goal

pub loop-i-preserved : goal.loop-i-preserved
loop-i-preserved g c =
    let rs = ranges_in {S = g.row.S.Denot} g.S.FrameStore.frames g.S.FrameStore.gap c.args.tracks.now.items in
    let here : c.loop-i.i < length rs = rw length-map (omega (arith, c.len-i-end.ensures)) in
    c.max-best.ensures ∙ highest_more (λ (r : List Span). option_to_list (last_end r)) rs c.loop-i.i c.loop-i.best c.last_end_at.result here c.loop-i.invariant (end_here c.last_end_at.result (slice_get rs c.loop-i.i) c.last_end_at.ensures)

pub returns : goal.returns
returns g c =
    let rs = ranges_in {S = g.row.S.Denot} g.S.FrameStore.frames g.S.FrameStore.gap c.args.tracks.now.items in
    let past : length rs ≤ c.loop-i.i = rw length-map (omega (arith, c.len-i-end.ensures)) in
    c.loop-i.invariant ∙ ap (λ qs. greatest (last_ends qs)) (take_all c.loop-i.i rs past)
