use Rattle.std.proofs.Common.{◌≡◌, ◌∙◌, ◌≤◌, ◌<◌, ℕ, map, take, length, ap, arith}
use Rattle.std.proofs.lemmas.List.{length-map, length-take, take_all}
use Rattle.mse_base.specs.Meets.{meet_of_all}
use Rattle.track_buffers.specs.Buffered.{with_end}
use Rattle.track_buffers.proofs.SharedRanges.{first_track, met_more, grown_all}
use Rattle.source_buffers.specs.State.{all_kept_media, in_slot}
use Rattle.source_buffers.specs.Buffered.{active_ranges, slot_ranges}
use Rattle.source_buffers.proofs.SlotLookUps.{active_normalized, none_active}
use Rattle.source_buffers.proofs.element.element_ranges.Goals as goal

pub returns-then-active-eq0 : goal.returns-then-active-eq0
returns-then-active-eq0 g c = c.new.ensures ∙ none_active c.args.ended c.args.active.now (all_kept_media c.args.slots.now.items) (omega (arith, c.if-active-eq0.true))

pub loop-i-init : goal.loop-i-init
loop-i-init g c =
    let ms = all_kept_media c.args.slots.now.items in
    let qs = active_ranges c.args.ended c.args.active.now ms in
    let rs = map (with_end c.common_end-end.result) qs in
    let long : length rs ≡ length c.args.active.now = length-map qs (with_end c.common_end-end.result) ∙ length-map c.args.active.now (λ (k : ℕ). slot_ranges c.args.ended (in_slot k ms)) in
    let one : 1 ≤ length rs = omega (arith, c.if-active-eq0.false) in
    record {
      met = first_track rs c.in_ok-common.common.spans one c.in_ok-common.ensures;
      some = omega arith;
    }

pub loop-i-preserved : goal.loop-i-preserved
loop-i-preserved g c =
    let ms = all_kept_media c.args.slots.now.items in
    let qs = active_ranges c.args.ended c.args.active.now ms in
    let rs = map (with_end c.common_end-end.result) qs in
    let long : length rs ≡ length c.args.active.now = length-map qs (with_end c.common_end-end.result) ∙ length-map c.args.active.now (λ (k : ℕ). slot_ranges c.args.ended (in_slot k ms)) in
    let here : c.loop-i.i < length rs = omega (arith, c.loop-i-test.true) in
    let front : 1 ≤ length (take c.loop-i.i rs) = rw length-take (omega (arith, c.loop-i.invariant.some)) in
    let all = grown_all c.common_end-end.result qs (active_normalized c.args.ended c.args.active.now ms c.sound.ensures.sound) in
    record {
      met = met_more rs c.loop-i.i c.loop-i.common.spans c.in_ok-ranges.ranges.spans c.in_ok-common-2.common.spans here front all c.loop-i.invariant.met c.in_ok-ranges.ensures c.in_ok-common-2.ensures.met;
      some = omega arith;
    }

pub returns : goal.returns
returns g c =
    let ms = all_kept_media c.args.slots.now.items in
    let qs = active_ranges c.args.ended c.args.active.now ms in
    let rs = map (with_end c.common_end-end.result) qs in
    let long : length rs ≡ length c.args.active.now = length-map qs (with_end c.common_end-end.result) ∙ length-map c.args.active.now (λ (k : ℕ). slot_ranges c.args.ended (in_slot k ms)) in
    let past : length rs ≤ c.loop-i.i = omega (arith, c.loop-i-test.false) in
    c.loop-i.invariant.met ∙ ap meet_of_all (take_all c.loop-i.i rs past ∙ c.common_end-end.ensures.shared)
