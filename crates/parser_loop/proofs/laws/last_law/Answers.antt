use Rattle.parser_loop.specs.Parse.{IsTrue}
use Rattle.parser_loop.proofs.StateInvariants.{last-item}
use Rattle.parser_loop.proofs.laws.last_law.Goals as goal

pub returns : goal.returns
returns g c = λ k q w f s n item e h. last-item k w (IsTrue q) f s n item e h
