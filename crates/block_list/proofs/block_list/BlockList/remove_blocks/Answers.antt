use Rattle.std.proofs.Common.{arith}
use Rattle.block_list.proofs.block_list.BlockList.remove_blocks.Goals as goal

pub invariant_of-self : goal.invariant_of-self
invariant_of-self g c = (c.drop_blocks-removed_count.ensures.listed c.self.inside.half c.self.inside.spare c.self.invariant.0, record { count = omega (arith, c.self.invariant.1.count, c.drop_blocks-removed_count.ensures.count); fits = omega (arith, c.self.invariant.1.fits) })
