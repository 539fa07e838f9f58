use Rattle.std.proofs.Common.{◌≡◌, ◌-◌, ◌+◌, ◌≤◌, length, drop, vec_capacity}
use Rattle.mse_base.specs.Rows.{row_items, AreFilled, AreEmpty, AreDense}
use Rattle.mse_base.proofs.block_row.gather.Given as goal

abbrev pub invariant-gathering : goal.invariant-gathering
invariant-gathering l = record {
  within : l.b ≤ length l.blocks.items;
  spans : row_items l.blocks.items ≡ row_items l.fn.blocks.items;
  filled : AreFilled l.blocks.items;
  empty : AreEmpty l.pool.items;
  dense : AreDense (drop (l.b - 1) l.blocks.items);
  len : length l.pool.items + length l.blocks.items ≡ length l.fn.pool.items + length l.fn.blocks.items;
  capacity : vec_capacity l.blocks ≡ vec_capacity l.fn.blocks;
  pool_capacity : vec_capacity l.pool ≡ vec_capacity l.fn.pool;
}

abbrev pub decreases-gathering : goal.decreases-gathering
decreases-gathering l = l.b
