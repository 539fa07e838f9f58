use Rattle.track_buffers.proofs.Durations.{not_after_ends, not_after_raised}
use Rattle.track_buffers.proofs.laws.durations.Goals as goal

pub returns-clause-ends : goal.returns-clause-ends
returns-clause-ends c = not_after_ends

pub returns-clause-raised : goal.returns-clause-raised
returns-clause-raised c = not_after_raised
