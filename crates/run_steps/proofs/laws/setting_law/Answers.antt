use Rattle.run_steps.proofs.Grows.{grows}
use Rattle.run_steps.proofs.laws.setting_law.Goals as goal

pub returns : goal.returns
returns c = λ ways r n. (grows n ways r).1
