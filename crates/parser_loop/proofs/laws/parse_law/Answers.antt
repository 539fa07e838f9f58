use Rattle.parser_loop.proofs.Parses.{items-parse, seen-parse}
use Rattle.parser_loop.proofs.laws.parse_law.Goals as goal

pub returns-clause-items : goal.returns-clause-items
returns-clause-items g c = λ k w see s. items-parse k see w s

pub returns-clause-seen : goal.returns-clause-seen
returns-clause-seen g c = λ k w see s n. seen-parse k see w s n
