use Rattle.std.proofs.Common.{◌+◌, ◌-◌, ◌≤◌, ◌≤ℤ◌, ◌-ℤ◌, ◌<ℤ◌, length, take, drop}
use Rattle.std.specs.List.{AllByRecursion}
use Rattle.mse_base.specs.Rows.{row_items, start, row}
use Rattle.mse_base.proofs.span_blocks.spans_ending.Given as goal

abbrev pub invariant-loop-low : goal.invariant-loop-low
invariant-loop-low l = record {
  order : l.low ≤ l.high;
  within : l.high ≤ length (row l.blocks.items l.b);
  before : AllByRecursion (λ r. r.end <ℤ (l.t -ℤ l.gap)) (take (start l.blocks.items l.b + l.low) (row_items l.blocks.items));
  after : AllByRecursion (λ r. (l.t -ℤ l.gap) ≤ℤ r.end) (drop (start l.blocks.items l.b + l.high) (row_items l.blocks.items));
}

abbrev pub decreases-loop-low : goal.decreases-loop-low
decreases-loop-low l = l.high - l.low
