use Rattle.std.proofs.Common.{◌∙◌, false, ◌<◌, ◌≤◌, ap, sym, length, arith}
use Rattle.std.specs.List.{list_all}
use Rattle.std.proofs.lemmas.List.{length-map, take_all}
use Rattle.track_buffers.specs.Buffered.{is_buffered_up_to}
use Rattle.track_buffers.proofs.Loops.{all_more, all_stops}
use Rattle.source_buffers.specs.State.{all_kept_media}
use Rattle.source_buffers.specs.Buffered.{active_ranges}
use Rattle.source_buffers.proofs.element.are_all_up_to.Goals as goal

pub returns-then-not-is_active_up_to : goal.returns-then-not-is_active_up_to
returns-then-not-is_active_up_to g c =
    let rs = active_ranges false c.args.active.now (all_kept_media c.args.slots.now.items) in
    let here : c.loop-i.i < length rs = rw length-map (omega (arith, c.loop-i-test.true)) in
    sym (all_stops (is_buffered_up_to c.args.t c.args.until) rs c.loop-i.i c.is_active_up_to.result c.is_active_up_to.ensures here c.if-not-is_active_up_to.true)

pub loop-i-preserved : goal.loop-i-preserved
loop-i-preserved g c =
    let rs = active_ranges false c.args.active.now (all_kept_media c.args.slots.now.items) in
    let here : c.loop-i.i < length rs = rw length-map (omega (arith, c.loop-i-test.true)) in
    all_more (is_buffered_up_to c.args.t c.args.until) rs c.loop-i.i c.is_active_up_to.result here c.loop-i.invariant c.is_active_up_to.ensures c.if-not-is_active_up_to.false

pub returns : goal.returns
returns g c =
    let rs = active_ranges false c.args.active.now (all_kept_media c.args.slots.now.items) in
    let past : length rs ≤ c.loop-i.i = rw length-map (omega (arith, c.loop-i-test.false)) in
    sym (ap (list_all (is_buffered_up_to c.args.t c.args.until)) (sym (take_all c.loop-i.i rs past)) ∙ c.loop-i.invariant)
