use Rattle.track_buffers.proofs.Durations.{highest_bounds, highest_nothing}
use Rattle.track_buffers.proofs.laws.highest_end.Goals as goal

pub returns-clause-bound : goal.returns-clause-bound
returns-clause-bound c = highest_bounds

pub returns-clause-none : goal.returns-clause-none
returns-clause-none c = highest_nothing
