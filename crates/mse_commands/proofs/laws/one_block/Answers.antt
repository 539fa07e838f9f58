use Rattle.mse_commands.proofs.Blocks.{one-core, one-text, one-run}
use Rattle.mse_commands.proofs.laws.one_block.Goals as goal

pub returns-clause-core : goal.returns-clause-core
returns-clause-core c = λ a b bytes entries others short p q. one-core a b bytes entries others short p q

pub returns-clause-text : goal.returns-clause-text
returns-clause-text c = λ a b bytes entries others short p q. one-text a b bytes entries others short p q

pub returns-clause-runs : goal.returns-clause-runs
returns-clause-runs c = λ files a b bytes before s t x y one short p q.
    one-run files a b bytes p.count q.count before s t x y one short p.before_is q.before_is p.through q.through p.ends q.ends
