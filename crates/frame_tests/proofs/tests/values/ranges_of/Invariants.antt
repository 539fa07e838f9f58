use Rattle.mse_base.specs.Bridging.{IsRanges}
use Rattle.frame_tests.proofs.tests.values.ranges_of.Given as goal

abbrev pub invariant-loop-bounds : goal.invariant-loop-bounds
invariant-loop-bounds g l = IsRanges l.gap l.ranges.spans
