use Rattle.std.specs.Prelude.{pos}
use Rattle.mse_base.specs.Bridging.{IsRanges}
use Rattle.script_tests.proofs.tests.rows.time_ranges.Given as goal

abbrev pub invariant-loop-bounds : goal.invariant-loop-bounds
invariant-loop-bounds g l = IsRanges (pos 0) l.ranges.spans
