use Rattle.mse_engine.proofs.Initialized.{listed-initialized, loading-initialized}
use Rattle.mse_engine.proofs.laws.active_buffers.Goals as goal

pub returns-clause-listed : goal.returns-clause-listed
returns-clause-listed c = listed-initialized

pub returns-clause-loading : goal.returns-clause-loading
returns-clause-loading c = loading-initialized
