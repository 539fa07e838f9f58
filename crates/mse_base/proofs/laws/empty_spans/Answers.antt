use Rattle.mse_base.proofs.Sets.{no_tick_in_empty, empty_adds_nothing}
use Rattle.mse_base.proofs.laws.empty_spans.Goals as goal

pub returns-clause-no_tick : goal.returns-clause-no_tick
returns-clause-no_tick c = no_tick_in_empty

pub returns-clause-adds_nothing : goal.returns-clause-adds_nothing
returns-clause-adds_nothing c = empty_adds_nothing
