use Rattle.parser_loop.proofs.Walks.{prefix}
use Rattle.parser_loop.proofs.ItemLaws.{is-prefix, leading-length}
use Rattle.parser_loop.specs.Walk.{items_from}
use Rattle.parser_loop.proofs.laws.item_law.Goals as goal

pub returns-clause-prefix : goal.returns-clause-prefix
returns-clause-prefix g c = λ k w e s more. is-prefix k e (items_from k s) (items_from k (k.more s more)) (prefix k w s more)

pub returns-clause-ahead : goal.returns-clause-ahead
returns-clause-ahead g c = λ k e items. leading-length k e items
