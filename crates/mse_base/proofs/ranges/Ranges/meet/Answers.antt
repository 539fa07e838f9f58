use Rattle.std.proofs.Common.{◌∙◌}
use Rattle.mse_base.proofs.SharedTicks.{meet_is, met_again}
use Rattle.mse_base.proofs.ranges.Ranges.meet.Goals as goal

pub invariant_of-result : goal.invariant_of-result
invariant_of-result c =
    let met = met_again c.self.inside.spans.spans c.other.inside.spans.spans c.as_slice.result.now c.as_slice-2.result.now c.in_ok-spans.spans.items c.from_vec.result.spans (c.as_slice.ensures.value ∙ c.in_ok-left.ensures) (c.as_slice-2.ensures.value ∙ c.in_ok-right.ensures) c.from_vec.ensures c.in_ok-spans.ensures in
    met.normalized

pub returns-clause-met : goal.returns-clause-met
returns-clause-met c = rw (← c.self.view_is, ← c.other.view_is) (met_again c.self.inside.spans.spans c.other.inside.spans.spans c.as_slice.result.now c.as_slice-2.result.now c.in_ok-spans.spans.items c.from_vec.result.spans (c.as_slice.ensures.value ∙ c.in_ok-left.ensures) (c.as_slice-2.ensures.value ∙ c.in_ok-right.ensures) c.from_vec.ensures c.in_ok-spans.ensures)

pub returns-clause-spans : goal.returns-clause-spans
returns-clause-spans c =
    let met = met_again c.self.inside.spans.spans c.other.inside.spans.spans c.as_slice.result.now c.as_slice-2.result.now c.in_ok-spans.spans.items c.from_vec.result.spans (c.as_slice.ensures.value ∙ c.in_ok-left.ensures) (c.as_slice-2.ensures.value ∙ c.in_ok-right.ensures) c.from_vec.ensures c.in_ok-spans.ensures in
    rw (← c.self.view_is, ← c.other.view_is) (meet_is _ _ _ c.self.invariant c.other.invariant met)
