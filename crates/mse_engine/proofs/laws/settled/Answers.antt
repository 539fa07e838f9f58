use Rattle.mse_engine.proofs.RefusedSteps.{settled-refused}
use Rattle.mse_engine.proofs.Settled.{call-settled, work-settled, turn-settled, settled-still, fired-settled}
use Rattle.mse_engine.proofs.laws.settled.Goals as goal

pub returns-clause-call : goal.returns-clause-call
returns-clause-call c = call-settled

pub returns-clause-work : goal.returns-clause-work
returns-clause-work c = work-settled

pub returns-clause-turn : goal.returns-clause-turn
returns-clause-turn c = turn-settled

pub returns-clause-still : goal.returns-clause-still
returns-clause-still c = settled-still

pub returns-clause-refused : goal.returns-clause-refused
returns-clause-refused c = settled-refused

pub returns-clause-fired : goal.returns-clause-fired
returns-clause-fired c = fired-settled
