use Rattle.track_buffers.proofs.LastRanges.{find-with_last_end, find-common}
use Rattle.track_buffers.proofs.EndedRanges.{find-buffered}
use Rattle.track_buffers.proofs.range_laws.held.Goals as goal

pub returns-clause-last_grown : goal.returns-clause-last_grown
returns-clause-last_grown c = find-with_last_end

pub returns-clause-shared : goal.returns-clause-shared
returns-clause-shared c = find-common

pub returns-clause-buffered : goal.returns-clause-buffered
returns-clause-buffered c = find-buffered
