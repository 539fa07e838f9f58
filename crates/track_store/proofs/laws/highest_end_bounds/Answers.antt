use Rattle.track_store.proofs.Limits.{highest_bounds, highest_none}
use Rattle.track_store.proofs.laws.highest_end_bounds.Goals as goal

pub returns-clause-bound : goal.returns-clause-bound
returns-clause-bound c = highest_bounds

pub returns-clause-none : goal.returns-clause-none
returns-clause-none c = highest_none
