use Rattle.written_back.proofs.Written.{written, written_plain}
use Rattle.written_back.proofs.laws.string_law.Goals as goal

pub returns : goal.returns
returns c = record { plain = written_plain; with_descriptions = written }
