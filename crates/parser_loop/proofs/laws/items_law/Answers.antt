use Rattle.parser_loop.proofs.Walks.{items-at}
use Rattle.parser_loop.proofs.laws.items_law.Goals as goal

pub returns : goal.returns
returns g c = λ k w n s. items-at k w n s
