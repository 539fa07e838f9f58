use Rattle.buffer_state.proofs.Refusals.{all_refused, all_told, early_everywhere}
use Rattle.buffer_state.proofs.laws.refusals.Goals as goal

pub returns-clause-refused : goal.returns-clause-refused
returns-clause-refused c call a f d name = (all_refused call a f d name)

pub returns-clause-told : goal.returns-clause-told
returns-clause-told c call a f d name = (all_told call a f d name)

pub returns-clause-early : goal.returns-clause-early
returns-clause-early c call a f d name = early_everywhere call a f d name
