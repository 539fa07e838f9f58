use Rattle.mse_engine.proofs.Progress.{work-less, turn-fewer, fire-leaves}
use Rattle.mse_engine.proofs.DrainCounts.{counted, queued-and-fired}
use Rattle.mse_engine.proofs.laws.drain_ends.Goals as goal

pub returns-clause-work : goal.returns-clause-work
returns-clause-work c = work-less

pub returns-clause-turn : goal.returns-clause-turn
returns-clause-turn c = turn-fewer

pub returns-clause-fire : goal.returns-clause-fire
returns-clause-fire c = fire-leaves

pub returns-clause-counts : goal.returns-clause-counts
returns-clause-counts c = counted

pub returns-clause-events : goal.returns-clause-events
returns-clause-events c = queued-and-fired
