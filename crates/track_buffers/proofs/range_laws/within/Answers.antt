use Rattle.track_buffers.proofs.RangeBounds.{buffered_within, buffered_to_highest, buffered_none}
use Rattle.track_buffers.proofs.range_laws.within.Goals as goal

pub returns-clause-times : goal.returns-clause-times
returns-clause-times c = buffered_within

pub returns-clause-highest : goal.returns-clause-highest
returns-clause-highest c = buffered_to_highest

pub returns-clause-none : goal.returns-clause-none
returns-clause-none c = buffered_none
