use Rattle.parser_loop.proofs.Latest.{state-latest}
use Rattle.parser_loop.proofs.laws.latest_law.Goals as goal

pub returns : goal.returns
returns g c = λ k latest w f s n. state-latest k w latest f n s
