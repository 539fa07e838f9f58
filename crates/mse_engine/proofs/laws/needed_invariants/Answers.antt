use Rattle.mse_engine.proofs.Examples.{told-end, listed-without-buffer}
use Rattle.mse_engine.proofs.laws.needed_invariants.Goals as goal

pub returns-clause-settled : goal.returns-clause-settled
returns-clause-settled c = told-end

pub returns-clause-lists : goal.returns-clause-lists
returns-clause-lists c = listed-without-buffer
