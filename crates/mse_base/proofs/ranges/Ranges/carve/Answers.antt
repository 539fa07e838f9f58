use Rattle.std.proofs.Common.{◌<ℤ◌, ◌-ℤ◌, ◌+ℤ◌, arith}
use Rattle.std.proofs.lemmas.Int.{ints}
use Rattle.mse_base.proofs.Extended.{normalized_ranges}
use Rattle.mse_base.proofs.CarvedRanges.{ranges_carved}
use Rattle.mse_base.proofs.BridgedRanges.{cut_out_carved}
use Rattle.mse_base.proofs.ranges.Ranges.carve.Goals as goal

pub invariant_of-self : goal.invariant_of-self
invariant_of-self c =
    let hole_not_empty = c.requires.hole_not_empty in
    let gap_from_zero = c.requires.gap_from_zero in
    let wide : ((c.args.hole.start -ℤ c.args.gap) +ℤ c.args.gap) <ℤ (c.args.hole.end +ℤ c.args.gap) = omega (arith, ints) in
    rw c.carve_out.ensures.spans (normalized_ranges c.args.gap _ gap_from_zero (ranges_carved c.args.gap _ _ c.self.inside.spans.spans gap_from_zero wide (rw (← c.self.view_is) at c.requires.ranges)))

pub returns-clause-cut_out : goal.returns-clause-cut_out
returns-clause-cut_out c =
    let hole_not_empty = c.requires.hole_not_empty in
    let gap_from_zero = c.requires.gap_from_zero in
    let wide : ((c.args.hole.start -ℤ c.args.gap) +ℤ c.args.gap) <ℤ (c.args.hole.end +ℤ c.args.gap) = omega (arith, ints) in
    rw (c.carve_out.ensures.spans, ← c.self.view_is) (cut_out_carved c.args.gap _ _ c.self.inside.spans.spans gap_from_zero (ranges_carved c.args.gap _ _ c.self.inside.spans.spans gap_from_zero wide (rw (← c.self.view_is) at c.requires.ranges)))

pub returns-clause-ranges : goal.returns-clause-ranges
returns-clause-ranges c =
    let hole_not_empty = c.requires.hole_not_empty in
    let gap_from_zero = c.requires.gap_from_zero in
    let wide : ((c.args.hole.start -ℤ c.args.gap) +ℤ c.args.gap) <ℤ (c.args.hole.end +ℤ c.args.gap) = omega (arith, ints) in
    rw c.carve_out.ensures.spans (ranges_carved c.args.gap _ _ c.self.inside.spans.spans gap_from_zero wide (rw (← c.self.view_is) at c.requires.ranges))
