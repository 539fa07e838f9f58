use Rattle.std.proofs.Common.{◌≡◌, ◌+◌, ◌-◌, ◌≤◌, ◌++◌, ◌-ℤ◌, ◌+ℤ◌, length, take, drop}
use Rattle.mse_base.specs.Bridging.{ranges_without, IsRanges}
use Rattle.mse_base.proofs.carve.carve_from.Given as goal

abbrev pub invariant-loop-i : goal.invariant-loop-i
invariant-loop-i l = record {
  within : l.i ≤ length l.ranges.spans;
  items : take l.i l.ranges.spans ++ ranges_without (l.hole.start -ℤ l.gap) (l.hole.end +ℤ l.gap) (drop l.i l.ranges.spans) ≡ take l.from l.fn.ranges.spans ++ ranges_without (l.hole.start -ℤ l.gap) (l.hole.end +ℤ l.gap) (drop l.from l.fn.ranges.spans);
  some : 1 ≤ l.ranges.spare;
  room : l.fn.ranges.spare + length l.fn.ranges.spans ≡ l.ranges.spare + length l.ranges.spans;
  ranges : IsRanges l.gap (drop l.i l.ranges.spans);
}

abbrev pub decreases-loop-i : goal.decreases-loop-i
decreases-loop-i l = length l.ranges.spans - l.i
