use Rattle.parser_loop.specs.Parse.{IsTrue}
use Rattle.parser_loop.proofs.StateInvariants.{each-item, each-state}
use Rattle.parser_loop.proofs.laws.invariant_law.Goals as goal

pub returns-clause-items : goal.returns-clause-items
returns-clause-items g c = λ k p q w f s n item h e. each-item k w (IsTrue p) (IsTrue q) f s h n item e

pub returns-clause-states : goal.returns-clause-states
returns-clause-states g c = λ k p q w f s n h. each-state k w (IsTrue p) (IsTrue q) f n s h
