use Rattle.std.proofs.Common.{refl}
use Rattle.parser_loop.specs.Walk.{items_from, settled_state, lookahead_from}
use Rattle.parser_loop.specs.Parse.{parse_from}
use Rattle.parser_loop.proofs.example.example_law.Goals as goal

pub returns-clause-items : goal.returns-clause-items
unfolding items_from
returns-clause-items c = refl

pub returns-clause-ended : goal.returns-clause-ended
unfolding items_from
returns-clause-ended c = refl

pub returns-clause-parse : goal.returns-clause-parse
unfolding parse_from
returns-clause-parse c = refl

pub returns-clause-state : goal.returns-clause-state
unfolding settled_state
returns-clause-state c = refl

pub returns-clause-ahead : goal.returns-clause-ahead
unfolding lookahead_from
returns-clause-ahead c = refl

pub returns-clause-pieces : goal.returns-clause-pieces
unfolding lookahead_from
returns-clause-pieces c = refl

pub returns-clause-first : goal.returns-clause-first
unfolding lookahead_from
returns-clause-first c = refl

pub returns-clause-after : goal.returns-clause-after
unfolding lookahead_from
returns-clause-after c = refl
