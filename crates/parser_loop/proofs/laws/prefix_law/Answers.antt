use Rattle.parser_loop.proofs.Walks.{prefix}
use Rattle.parser_loop.proofs.laws.prefix_law.Goals as goal

pub returns : goal.returns
returns g c = λ k w s more. prefix k w s more
