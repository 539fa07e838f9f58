use Rattle.written_back.proofs.Fragment.{plan_written}
use Rattle.written_back.proofs.laws.fragment_law.Goals as goal

pub returns : goal.returns
returns c = plan_written
