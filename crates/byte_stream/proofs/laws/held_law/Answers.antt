use Rattle.byte_stream.proofs.Placed.{held-suffix}
use Rattle.byte_stream.proofs.laws.held_law.Goals as goal

pub returns : goal.returns
returns c = λ r. held-suffix r.container r.string
