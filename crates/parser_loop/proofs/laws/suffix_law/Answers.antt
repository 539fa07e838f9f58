use Rattle.parser_loop.proofs.Suffixes.{state-suffix}
use Rattle.parser_loop.proofs.laws.suffix_law.Goals as goal

pub returns : goal.returns
returns g c = λ k bytes w f s n. state-suffix k w bytes f s n
