use Rattle.std.proofs.Common.{◌≡◌, ◌∙◌, pos, ◌≤ℤ◌, sym, subst}
use Rattle.std.specs.Int.{int_max}
use Rattle.mse_base.specs.Bridging.{bridged_ranges}
use Rattle.mse_base.proofs.JoinedSpans.{ranges_bridged}
use Rattle.mse_base.proofs.Extended.{normalized_ranges}
use Rattle.mse_base.proofs.FilledGaps.{filled_is, filled_law, from_zero, spans_are, unchanged}
use Rattle.mse_base.proofs.ranges.Ranges.bridge.Goals as goal

pub bridged_of-requires : goal.bridged_of-requires
bridged_of-requires c = subst (λ z. pos 0 ≤ℤ z) (sym (filled_is c.args.gap c.max-longest_gap.result c.zero.result c.max-longest_gap.ensures c.zero.ensures)) (from_zero c.args.gap)

pub invariant_of-result : goal.invariant_of-result
invariant_of-result c =
    let e : c.in_ok-spans.spans.spans ≡ bridged_ranges (int_max c.args.gap (pos 0)) c.self.inside.spans.spans = spans_are c.args.gap c.max-longest_gap.result c.zero.result c.self.inside.spans.spans c.as_slice.result.now c.in_ok-spans.spans.spans c.max-longest_gap.ensures c.zero.ensures (c.as_slice.ensures.value ∙ c.in_ok-list.ensures) c.in_ok-spans.ensures in
    rw e (normalized_ranges _ _ (from_zero c.args.gap) (ranges_bridged _ c.self.inside.spans.spans (from_zero c.args.gap)))

pub returns-clause-bridged : goal.returns-clause-bridged
returns-clause-bridged c =
    let e : c.in_ok-spans.spans.spans ≡ bridged_ranges (int_max c.args.gap (pos 0)) c.self.inside.spans.spans = spans_are c.args.gap c.max-longest_gap.result c.zero.result c.self.inside.spans.spans c.as_slice.result.now c.in_ok-spans.spans.spans c.max-longest_gap.ensures c.zero.ensures (c.as_slice.ensures.value ∙ c.in_ok-list.ensures) c.in_ok-spans.ensures in
    rw (e, ← c.self.view_is) (filled_law c.args.gap c.self.inside.spans.spans)

pub returns-clause-spans : goal.returns-clause-spans
returns-clause-spans c =
    let e : c.in_ok-spans.spans.spans ≡ bridged_ranges (int_max c.args.gap (pos 0)) c.self.inside.spans.spans = spans_are c.args.gap c.max-longest_gap.result c.zero.result c.self.inside.spans.spans c.as_slice.result.now c.in_ok-spans.spans.spans c.max-longest_gap.ensures c.zero.ensures (c.as_slice.ensures.value ∙ c.in_ok-list.ensures) c.in_ok-spans.ensures in
    rw (← c.self.view_is) e

pub returns-clause-ranges : goal.returns-clause-ranges
returns-clause-ranges c =
    let e : c.in_ok-spans.spans.spans ≡ bridged_ranges (int_max c.args.gap (pos 0)) c.self.inside.spans.spans = spans_are c.args.gap c.max-longest_gap.result c.zero.result c.self.inside.spans.spans c.as_slice.result.now c.in_ok-spans.spans.spans c.max-longest_gap.ensures c.zero.ensures (c.as_slice.ensures.value ∙ c.in_ok-list.ensures) c.in_ok-spans.ensures in
    rw e (ranges_bridged _ c.self.inside.spans.spans (from_zero c.args.gap))

pub returns-clause-unchanged : goal.returns-clause-unchanged
returns-clause-unchanged c =
    let e : c.in_ok-spans.spans.spans ≡ bridged_ranges (int_max c.args.gap (pos 0)) c.self.inside.spans.spans = spans_are c.args.gap c.max-longest_gap.result c.zero.result c.self.inside.spans.spans c.as_slice.result.now c.in_ok-spans.spans.spans c.max-longest_gap.ensures c.zero.ensures (c.as_slice.ensures.value ∙ c.in_ok-list.ensures) c.in_ok-spans.ensures in
    λ h. rw (← c.self.view_is) (e ∙ unchanged c.args.gap c.self.inside.spans.spans c.self.invariant h)
