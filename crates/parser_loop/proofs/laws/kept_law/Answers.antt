use Rattle.parser_loop.proofs.Lookaheads.{stands-first, stands-after, stands-look, stands-lookahead, stands-ready}
use Rattle.parser_loop.proofs.Pieces.{stands-start, stands-pieces}
use Rattle.parser_loop.proofs.laws.kept_law.Goals as goal

pub returns-clause-start : goal.returns-clause-start
returns-clause-start g c = λ k w s. stands-start k w s

pub returns-clause-pieces : goal.returns-clause-pieces
returns-clause-pieces g c = λ k w kept s n cs h. stands-pieces k w kept s n cs h

pub returns-clause-first : goal.returns-clause-first
returns-clause-first g c = λ k w kept s n h. stands-first k w kept s n h

pub returns-clause-after : goal.returns-clause-after
returns-clause-after g c = λ k w kept s n h. stands-after k w kept s n h

pub returns-clause-look : goal.returns-clause-look
returns-clause-look g c = λ k w kept s n i l h. stands-look k w kept s n i l h

pub returns-clause-ready : goal.returns-clause-ready
returns-clause-ready g c = λ k w kept s n h. stands-ready k w kept s n h

pub returns-clause-lookahead : goal.returns-clause-lookahead
returns-clause-lookahead g c = λ k w kept s n h. stands-lookahead k w kept s n h
