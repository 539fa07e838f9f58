use Rattle.std.proofs.Common.{◌<◌, ◌≤◌, ◌∙◌, List, length, arith, ap, slice_get, true}
use Rattle.std.specs.Option.{option_to_list}
use Rattle.std.proofs.lemmas.List.{length-map, take_all}
use Rattle.mse_base.specs.declared.span.Span.{Span}
use Rattle.mse_base.specs.Moments.{greatest}
use Rattle.track_buffers.specs.Buffered.{last_end, last_ends}
use Rattle.track_buffers.proofs.Loops.{highest_more}
use Rattle.track_buffers.proofs.SharedRanges.{end_here}
use Rattle.source_buffers.specs.State.{all_kept_media}
use Rattle.source_buffers.specs.Buffered.{active_ranges}
use Rattle.source_buffers.proofs.element.highest_range_end.Goals as goal

pub loop-i-preserved : goal.loop-i-preserved
loop-i-preserved g c =
    let rs = active_ranges true c.args.active.now (all_kept_media c.args.slots.now.items) in
    let here : c.loop-i.i < length rs = rw length-map (omega (arith, c.loop-i-test.true)) in
    c.max-best.ensures ∙ highest_more (λ (r : List Span). option_to_list (last_end r)) rs c.loop-i.i c.loop-i.best c.end_at.result here c.loop-i.invariant (end_here c.end_at.result (slice_get rs c.loop-i.i) c.end_at.ensures)

pub returns : goal.returns
returns g c =
    let rs = active_ranges true c.args.active.now (all_kept_media c.args.slots.now.items) in
    let past : length rs ≤ c.loop-i.i = rw length-map (omega (arith, c.loop-i-test.false)) in
    c.loop-i.invariant ∙ ap (λ qs. greatest (last_ends qs)) (take_all c.loop-i.i rs past)
