use Rattle.std.proofs.Common.{◌-◌, length}
use Rattle.mse_base.specs.Rows.{AreStarts}
use Rattle.mse_base.proofs.block_starts.restart.Given as goal

abbrev pub invariant-counting : goal.invariant-counting
invariant-counting l = record {
  starts : AreStarts l.starts.items l.blocks.items;
}

abbrev pub decreases-counting : goal.decreases-counting
decreases-counting l = length l.blocks.items - length l.starts.items
