use Rattle.written_back.proofs.Law.{remux_reads_back}
use Rattle.written_back.proofs.laws.remux_law.Goals as goal

pub returns : goal.returns
returns c = remux_reads_back
