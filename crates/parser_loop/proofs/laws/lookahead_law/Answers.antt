use Rattle.parser_loop.proofs.Lookaheads.{lookahead-items, lookahead-more}
use Rattle.parser_loop.proofs.laws.lookahead_law.Goals as goal

pub returns-clause-items : goal.returns-clause-items
returns-clause-items g c = λ k w s. lookahead-items k w s

pub returns-clause-more : goal.returns-clause-more
returns-clause-more g c = λ k w s more. lookahead-more k w s more
