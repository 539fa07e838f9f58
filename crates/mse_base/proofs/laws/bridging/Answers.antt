use Rattle.mse_base.proofs.JoinedSpans.{length_bridged}
use Rattle.mse_base.proofs.Extended.{bridged_law}
use Rattle.mse_base.proofs.Neighbours.{joined_of_bridged, bridged_of_joined}
use Rattle.mse_base.proofs.laws.bridging.Goals as goal

pub returns-clause-made : goal.returns-clause-made
returns-clause-made c = bridged_law

pub returns-clause-not_more : goal.returns-clause-not_more
returns-clause-not_more c = length_bridged

pub returns-clause-no_gap : goal.returns-clause-no_gap
returns-clause-no_gap c = λ gap given xs g. (joined_of_bridged gap given xs g, bridged_of_joined gap given xs g)
