use Rattle.std.proofs.Common.{sym, subst}
use Rattle.block_list.specs.Starts.{AreStartsUpTo}
use Rattle.block_list.proofs.ranked.RankedList.change.Goals as goal

pub invariant_of-self : goal.invariant_of-self
invariant_of-self g c = subst (AreStartsUpTo c.self.inside.starts.items c.self.inside.settled c.self.inside.excess) (sym c.change.ensures.starts) c.self.invariant
