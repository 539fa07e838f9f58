use Rattle.program_law.proofs.Examples.{empty}
use Rattle.program_law.proofs.FileExamples.{frames}
use Rattle.run_client.proofs.Equations.{text_by_equation}
use Rattle.run_client.proofs.ranges_of.Goals as goal

pub returns-clause-empty : goal.returns-clause-empty
returns-clause-empty c = λ e. text_by_equation c.run_on.result (λ made. made.1.written) (λ made. made.0) _ _ _ _ empty e c.run_on.ensures

pub returns-clause-plain : goal.returns-clause-plain
returns-clause-plain c = λ e. text_by_equation c.run_on.result (λ made. made.1.written) (λ made. made.0) _ _ _ _ frames e c.run_on.ensures
