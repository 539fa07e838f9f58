use Rattle.mse_engine.proofs.Cores.{call-core}
use Rattle.mse_engine.proofs.laws.cores.Goals as goal

pub returns : goal.returns
returns c = record { call = call-core }
