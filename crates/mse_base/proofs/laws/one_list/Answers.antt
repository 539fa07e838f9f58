use Rattle.mse_base.proofs.Extended.{one_bridged}
use Rattle.mse_base.proofs.Neighbours.{one_joined, one_met, one_cut_out}
use Rattle.mse_base.proofs.laws.one_list.Goals as goal

pub returns-clause-joined : goal.returns-clause-joined
returns-clause-joined c = one_joined

pub returns-clause-met : goal.returns-clause-met
returns-clause-met c = one_met

pub returns-clause-cut_out : goal.returns-clause-cut_out
returns-clause-cut_out c = one_cut_out

pub returns-clause-bridged : goal.returns-clause-bridged
returns-clause-bridged c = one_bridged
