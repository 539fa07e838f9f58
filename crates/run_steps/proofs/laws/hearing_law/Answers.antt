use Rattle.run_steps.proofs.Hearing.{heard_at_rest}
use Rattle.run_steps.proofs.laws.hearing_law.Goals as goal

pub returns : goal.returns
returns c = λ ways r n w event before after none todos is. heard_at_rest ways r n w event before after none todos is
