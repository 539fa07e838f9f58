use Rattle.std.proofs.Common.{◌≡◌, ◌-◌, ◌+◌, ◌<◌, length}
use Rattle.mse_base.specs.Rows.{start}
use Rattle.mse_base.proofs.block_starts.place_in_group.Given as goal

abbrev pub invariant-walk : goal.invariant-walk
invariant-walk l = record {
  within : l.block < length l.blocks.items;
  rank : start l.blocks.items l.block + l.index ≡ l.i;
}

abbrev pub decreases-walk : goal.decreases-walk
decreases-walk l = length l.blocks.items - l.block
