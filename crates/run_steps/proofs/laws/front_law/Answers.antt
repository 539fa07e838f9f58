use Rattle.std.proofs.Common.{subst, sym}
use Rattle.run_steps.specs.Laws.{IsFrontOf}
use Rattle.run_steps.specs.Steps.{Run, run_for}
use Rattle.run_steps.proofs.Grows.{grows, one_end as one_ended, steps_then}
use Rattle.run_steps.proofs.laws.front_law.Goals as goal

pub returns-clause-front : goal.returns-clause-front
returns-clause-front c = λ ways r n m.
    subst (λ (x : Run). IsFrontOf (run_for n ways r).happened x.happened) (sym (steps_then n m ways r)) (grows m ways (run_for n ways r)).0

pub returns-clause-one_end : goal.returns-clause-one_end
returns-clause-one_end c = λ ways r n m a b. one_ended n m ways r a b
