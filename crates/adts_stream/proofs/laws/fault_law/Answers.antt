use Rattle.adts_stream.proofs.Places.{fault-last}
use Rattle.adts_stream.proofs.laws.fault_law.Goals as goal

pub returns : goal.returns
returns c = λ r f at e. fault-last r.before r.whole r.taken at f e
