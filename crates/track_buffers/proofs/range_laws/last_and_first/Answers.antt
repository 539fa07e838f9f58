use Rattle.track_buffers.proofs.SharedEnds.{last-meet_of_all, first-meet_of_all, last-common}
use Rattle.track_buffers.proofs.EndedRanges.{last-held, last-none}
use Rattle.track_buffers.proofs.range_laws.last_and_first.Goals as goal

pub returns-clause-last : goal.returns-clause-last
returns-clause-last c = last-meet_of_all

pub returns-clause-first : goal.returns-clause-first
returns-clause-first c = first-meet_of_all

pub returns-clause-ended : goal.returns-clause-ended
returns-clause-ended c = last-common

pub returns-clause-held : goal.returns-clause-held
returns-clause-held c = last-held

pub returns-clause-none : goal.returns-clause-none
returns-clause-none c = last-none
