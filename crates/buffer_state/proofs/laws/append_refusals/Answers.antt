use Rattle.buffer_state.proofs.Refusals.{append_refused, append_evicts}
use Rattle.buffer_state.proofs.laws.append_refusals.Goals as goal

pub returns-clause-refused : goal.returns-clause-refused
returns-clause-refused c = append_refused

pub returns-clause-evicts : goal.returns-clause-evicts
returns-clause-evicts c = append_evicts
