use Rattle.std.proofs.Common.{◌≡◌, ◌+◌, ◌-◌, ◌≤◌, length, vec_capacity}
use Rattle.mse_base.specs.Rows.{AreEmpty}
use Rattle.mse_base.proofs.block_row.fill.Given as goal

abbrev pub invariant-fill : goal.invariant-fill
invariant-fill l = record {
  rows : l.blocks.items ≡ l.fn.blocks.items;
  empty : AreEmpty l.pool.items;
  more : length l.fn.pool.items ≤ length l.pool.items;
  block_room : length l.pool.items + length l.blocks.items ≤ vec_capacity l.blocks;
  pool_room : length l.pool.items + length l.blocks.items ≤ vec_capacity l.pool;
}

abbrev pub decreases-fill : goal.decreases-fill
decreases-fill l = l.block_count - length l.pool.items
