use Rattle.std.proofs.Common.{◌≡◌, ◌+◌, ◌-◌, ◌≤◌, ◌++◌, length, take, drop}
use Rattle.mse_base.specs.Bridging.{ranges_with_lasting}
use Rattle.mse_base.proofs.bridge.join_from.Given as goal

abbrev pub invariant-loop-i : goal.invariant-loop-i
invariant-loop-i l = record {
  within : l.i ≤ length l.ranges.spans;
  items : take l.i l.ranges.spans ++ ranges_with_lasting l.gap l.s (drop l.i l.ranges.spans) ≡ take l.from l.fn.ranges.spans ++ ranges_with_lasting l.gap l.initial.s (drop l.from l.fn.ranges.spans);
  some : 1 ≤ l.ranges.spare;
  room : l.fn.ranges.spare + length l.fn.ranges.spans ≡ l.ranges.spare + length l.ranges.spans;
}

abbrev pub decreases-loop-i : goal.decreases-loop-i
decreases-loop-i l = length l.ranges.spans - l.i
