use Rattle.std.proofs.Common.{◌-◌, ◌*◌, ◌≤◌, length}
use Rattle.mse_base.specs.Rows.{start}
use Rattle.mse_base.proofs.block_starts.group_of.Given as goal

abbrev pub invariant-loop-low : goal.invariant-loop-low
invariant-loop-low l = record {
  order : l.low ≤ l.high;
  within : l.high ≤ length l.starts.items;
  before : start l.blocks.items (32 * l.low) ≤ l.i;
}

abbrev pub decreases-loop-low : goal.decreases-loop-low
decreases-loop-low l = l.high - l.low
