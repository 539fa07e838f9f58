use Rattle.written_back.proofs.Made.{made_read}
use Rattle.written_back.proofs.laws.make_law.Goals as goal

pub returns : goal.returns
returns c = made_read
