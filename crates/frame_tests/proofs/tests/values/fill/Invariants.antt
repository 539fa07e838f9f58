use Rattle.std.proofs.Common.{pos}
use Rattle.mse_base.specs.Bridging.{IsRanges}
use Rattle.frame_tests.proofs.tests.values.fill.Given as goal

abbrev pub invariant-loop-i : goal.invariant-loop-i
invariant-loop-i g l = IsRanges (pos 0) l.ranges.spans
