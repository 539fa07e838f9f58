use Rattle.std.proofs.Common.{◌-◌, ◌≤◌, ◌≤ℤ◌, ◌-ℤ◌, ◌<ℤ◌, length, take, drop}
use Rattle.std.specs.List.{AllByRecursion}
use Rattle.mse_base.proofs.lookup.ending_before.Given as goal

abbrev pub invariant-loop-low : goal.invariant-loop-low
invariant-loop-low l = record {
  order : l.low ≤ l.high;
  within : l.high ≤ length l.ranges;
  before : AllByRecursion (λ r. r.end <ℤ (l.t -ℤ l.gap)) (take l.low l.ranges);
  after : AllByRecursion (λ r. (l.t -ℤ l.gap) ≤ℤ r.end) (drop l.high l.ranges);
}

abbrev pub decreases-loop-low : goal.decreases-loop-low
decreases-loop-low l = l.high - l.low
