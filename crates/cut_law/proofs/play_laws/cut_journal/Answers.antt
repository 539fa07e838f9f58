use Rattle.cut_law.proofs.Singles.{cuts-alike}
use Rattle.cut_law.proofs.play_laws.cut_journal.Goals as goal

pub returns : goal.returns
returns c = λ blobs limits st lines entries j. cuts-alike blobs limits st lines entries j
