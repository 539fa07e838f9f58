use Rattle.mse_base.proofs.Floors.{floor_is}
use Rattle.mse_base.proofs.laws.floor.Goals as goal

pub returns : goal.returns
returns c = floor_is
