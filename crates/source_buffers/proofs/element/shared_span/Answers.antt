use Rattle.std.proofs.Common.{◌≡◌, ◌∙◌, ◌≤◌, ◌<◌, ℕ, List, map, take, length, ap, arith}
use Rattle.std.specs.List.{find}
use Rattle.std.proofs.lemmas.List.{length-map, length-take, take_all}
use Rattle.mse_base.specs.declared.span.Span.{Span}
use Rattle.mse_base.specs.Spans.{reaches}
use Rattle.mse_base.specs.Meets.{meet_of_all}
use Rattle.track_buffers.specs.Buffered.{with_end}
use Rattle.track_buffers.proofs.SharedRanges.{grown_all}
use Rattle.track_buffers.proofs.Lookups.{held_first, held_more}
use Rattle.source_buffers.specs.State.{all_kept_media, in_slot}
use Rattle.source_buffers.specs.Buffered.{active_ranges, slot_ranges}
use Rattle.source_buffers.proofs.SlotLookUps.{active_normalized, none_active}
use Rattle.source_buffers.proofs.element.shared_span.Goals as goal

pub returns-then-active-eq0 : goal.returns-then-active-eq0
returns-then-active-eq0 g c = ap (λ (rs : List Span). find (reaches c.args.t) rs) (none_active c.args.ended c.args.active.now (all_kept_media c.args.slots.now.items) (omega (arith, c.if-active-eq0.true)))

pub loop-i-init : goal.loop-i-init
loop-i-init g c =
    let ms = all_kept_media c.args.slots.now.items in
    let qs = active_ranges c.args.ended c.args.active.now ms in
    let rs = map (with_end c.common_end-end.result) qs in
    let long : length rs ≡ length c.args.active.now = length-map qs (with_end c.common_end-end.result) ∙ length-map c.args.active.now (λ (k : ℕ). slot_ranges c.args.ended (in_slot k ms)) in
    let one : 1 ≤ length rs = omega (arith, c.if-active-eq0.false) in
    record {
      held = held_first c.args.t rs c.span_at-span.result one c.span_at-span.ensures;
      some = omega arith;
    }

pub loop-i-preserved : goal.loop-i-preserved
loop-i-preserved g c =
    let ms = all_kept_media c.args.slots.now.items in
    let qs = active_ranges c.args.ended c.args.active.now ms in
    let rs = map (with_end c.common_end-end.result) qs in
    let long : length rs ≡ length c.args.active.now = length-map qs (with_end c.common_end-end.result) ∙ length-map c.args.active.now (λ (k : ℕ). slot_ranges c.args.ended (in_slot k ms)) in
    let here : c.loop-i.i < length rs = omega (arith, c.loop-i-test.true) in
    let front : 1 ≤ length (take c.loop-i.i rs) = rw length-take (omega (arith, c.loop-i.invariant.some)) in
    let all = grown_all c.common_end-end.result qs (active_normalized c.args.ended c.args.active.now ms c.sound.ensures.sound) in
    record {
      held = held_more c.args.t rs c.loop-i.i c.loop-i.span c.span_at.result c.overlap_of_two-span.result here front all c.loop-i.invariant.held c.span_at.ensures c.overlap_of_two-span.ensures;
      some = omega arith;
    }

pub returns : goal.returns
returns g c =
    let ms = all_kept_media c.args.slots.now.items in
    let qs = active_ranges c.args.ended c.args.active.now ms in
    let rs = map (with_end c.common_end-end.result) qs in
    let long : length rs ≡ length c.args.active.now = length-map qs (with_end c.common_end-end.result) ∙ length-map c.args.active.now (λ (k : ℕ). slot_ranges c.args.ended (in_slot k ms)) in
    let past : length rs ≤ c.loop-i.i = omega (arith, c.loop-i-test.false) in
    c.loop-i.invariant.held ∙ ap (λ (qs : List (List Span)). find (reaches c.args.t) (meet_of_all qs)) (take_all c.loop-i.i rs past ∙ c.common_end-end.ensures.shared)
