use Rattle.eviction.proofs.Spared.{left_of_lead, left_of_each}
use Rattle.eviction.proofs.laws.position_stays.Goals as goal

pub returns-clause-lead : goal.returns-clause-lead
returns-clause-lead c = left_of_lead

pub returns-clause-every_track : goal.returns-clause-every_track
returns-clause-every_track c = left_of_each
