use Rattle.source_buffers.proofs.SlotDurations.{all_later}
use Rattle.source_buffers.proofs.Highest.{all_bounded, none_stored, no_end}
use Rattle.source_buffers.proofs.laws.within_duration.Goals as goal

pub returns-clause-later : goal.returns-clause-later
returns-clause-later c = all_later

pub returns-clause-bound : goal.returns-clause-bound
returns-clause-bound c = all_bounded

pub returns-clause-none : goal.returns-clause-none
returns-clause-none c ms = (none_stored ms, no_end ms)
