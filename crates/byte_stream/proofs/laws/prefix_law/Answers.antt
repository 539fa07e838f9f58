use Rattle.byte_stream.proofs.Placed.{items-begin}
use Rattle.byte_stream.proofs.laws.prefix_law.Goals as goal

pub returns : goal.returns
returns c = λ r bytes. items-begin r.container r.string.before r.string.whole bytes
