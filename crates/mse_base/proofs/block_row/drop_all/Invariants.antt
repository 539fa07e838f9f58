use Rattle.std.proofs.Common.{◌≡◌, ◌+◌, length, vec_capacity}
use Rattle.mse_base.specs.Rows.{AreEmpty}
use Rattle.mse_base.proofs.block_row.drop_all.Given as goal

abbrev pub invariant-dropping : goal.invariant-dropping
invariant-dropping l = record {
  empty : AreEmpty l.pool.items;
  len : length l.pool.items + length l.blocks.items ≡ length l.fn.pool.items + length l.fn.blocks.items;
  capacity : vec_capacity l.blocks ≡ vec_capacity l.fn.blocks;
  pool_capacity : vec_capacity l.pool ≡ vec_capacity l.fn.pool;
}

abbrev pub decreases-dropping : goal.decreases-dropping
decreases-dropping l = length l.blocks.items
