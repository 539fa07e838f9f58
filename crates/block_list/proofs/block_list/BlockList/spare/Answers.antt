use Rattle.std.proofs.Common.{subst}
use Rattle.block_list.specs.Rows.{AreNonEmpty}
use Rattle.block_list.proofs.KeptRows.{full_of}
use Rattle.block_list.proofs.block_list.BlockList.spare.Goals as goal

pub returns-clause-none_empty : goal.returns-clause-none_empty
returns-clause-none_empty g c = subst (λ w. AreNonEmpty w.rows) c.self.view_is (full_of c.self.inside.half c.self.inside.blocks.items c.self.invariant.0.short)
