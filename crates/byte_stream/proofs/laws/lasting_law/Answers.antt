use Rattle.byte_stream.proofs.Lasting.{items-last}
use Rattle.byte_stream.proofs.laws.lasting_law.Goals as goal

pub returns : goal.returns
returns c = λ r. items-last r.container r.string.before r.string.whole
