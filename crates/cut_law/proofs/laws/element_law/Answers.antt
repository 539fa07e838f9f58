use Rattle.mse_calls.specs.declared.calls.Call.TheVariants as call
use Rattle.mse_engine.proofs.Cores.{call-core}
use Rattle.cut_law.proofs.Journals.{fired-core, turn-leaves}
use Rattle.cut_law.proofs.laws.element_law.Goals as goal

pub returns-clause-fire : goal.returns-clause-fire
returns-clause-fire c = λ st. fired-core st

pub returns-clause-turn : goal.returns-clause-turn
returns-clause-turn c = λ st. turn-leaves st

pub returns-clause-seek : goal.returns-clause-seek
returns-clause-seek c = λ blobs t st. call-core blobs (call.Seek t) st

pub returns-clause-play : goal.returns-clause-play
returns-clause-play c = λ blobs st. call-core blobs call.Play st

pub returns-clause-pause : goal.returns-clause-pause
returns-clause-pause c = λ blobs st. call-core blobs call.Pause st

pub returns-clause-advance : goal.returns-clause-advance
returns-clause-advance c = λ blobs t st. call-core blobs (call.Advance t) st
