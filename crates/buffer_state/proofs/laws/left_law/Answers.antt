use Rattle.buffer_state.proofs.StepsLeft.{left}
use Rattle.buffer_state.proofs.laws.left_law.Goals as goal

pub returns : goal.returns
returns c = λ s r h. left s.parser r.container r.string h.parser
