use Rattle.std.proofs.Common.{◌≡◌, ◌≤◌, ◌+◌, ◌-◌, ◌++◌, ℕ, length, take, drop, vec_capacity}
use Rattle.mse_base.specs.Rows.{row_items}
use Rattle.block_list.specs.Rows.{IsListed}
use Rattle.block_list.proofs.block_list.drop_blocks.Given as goal

abbrev pub invariant-dropping : goal.invariant-dropping
invariant-dropping g l = record {
  count : l.removed_count + length (row_items l.blocks.items) ≡ length (row_items l.fn.blocks.items);
  in_order : l.from ≤ l.end;
  within : l.end ≤ l.to;
  rows : l.blocks.items ≡ take l.end l.fn.blocks.items ++ drop l.to l.fn.blocks.items;
  room : length l.pool.items + length l.blocks.items ≤ vec_capacity l.pool;
  listed : (half e : ℕ) → IsListed (record { rows = l.fn.blocks.items; pool = l.fn.pool.items; block_capacity = vec_capacity l.fn.blocks; pool_capacity = vec_capacity l.fn.pool }) half e → IsListed (record { rows = l.blocks.items; pool = l.pool.items; block_capacity = vec_capacity l.blocks; pool_capacity = vec_capacity l.pool }) half e;
}

abbrev pub decreases-dropping : goal.decreases-dropping
decreases-dropping g l = l.end - l.from
