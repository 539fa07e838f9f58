use Rattle.cut_law.proofs.AwaitedAppends.{cutting, recutting}
use Rattle.cut_law.proofs.laws.any_cutting.Goals as goal

pub returns-clause-once : goal.returns-clause-once
returns-clause-once c = λ blobs st cut p awaited us ut. cutting blobs st cut p awaited us ut

pub returns-clause-again : goal.returns-clause-again
returns-clause-again c = λ blobs st s t cuts us are. recutting cuts blobs st s t us are
