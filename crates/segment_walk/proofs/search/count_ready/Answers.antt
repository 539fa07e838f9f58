use Rattle.std.proofs.Common.{sym}
use Rattle.segment_walk.proofs.SlotRanges.{none-ready}
use Rattle.segment_walk.proofs.search.count_ready.Goals as goal

pub returns-in_default : goal.returns-in_default
returns-in_default c = none-ready c.args.there c.args.known.now c.args.slots.now (sym c.in_default.ensures.value)
