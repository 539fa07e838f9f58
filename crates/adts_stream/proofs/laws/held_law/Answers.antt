use Rattle.adts_stream.proofs.Places.{held-suffix}
use Rattle.adts_stream.proofs.laws.held_law.Goals as goal

pub returns : goal.returns
returns c = λ r. held-suffix r
