use Rattle.std.proofs.Common.{ap}
use Rattle.cut_law.specs.Outcomes.{core_outcome}
use Rattle.cut_law.proofs.laws.outcome_law.Goals as goal

pub returns : goal.returns
returns c = λ a b e. ap core_outcome e
