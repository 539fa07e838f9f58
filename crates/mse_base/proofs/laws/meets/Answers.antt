use Rattle.mse_base.proofs.SharedTicks.{met_meet}
use Rattle.mse_base.proofs.RangeAtTime.{find-meet}
use Rattle.mse_base.proofs.laws.meets.Goals as goal

pub returns-clause-met : goal.returns-clause-met
returns-clause-met c = met_meet

pub returns-clause-found : goal.returns-clause-found
returns-clause-found c = find-meet
