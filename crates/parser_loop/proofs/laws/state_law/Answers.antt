use Rattle.parser_loop.proofs.Walks.{state-more}
use Rattle.parser_loop.proofs.laws.state_law.Goals as goal

pub returns : goal.returns
returns g c = λ k w n s more h. state-more k w n s more h
