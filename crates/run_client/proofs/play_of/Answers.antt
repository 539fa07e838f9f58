use Rattle.program_law.proofs.ScriptExamples.{ten_lines}
use Rattle.run_client.proofs.Equations.{text_by_equation}
use Rattle.run_client.proofs.play_of.Goals as goal

pub returns : goal.returns
returns c = λ e. text_by_equation c.run_on.result (λ made. made.1.written) (λ made. made.0) _ _ _ _ ten_lines e c.run_on.ensures
