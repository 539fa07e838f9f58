use Rattle.adts_stream.proofs.StreamLaws.{stands-pieces, stands-latest}
use Rattle.adts_stream.proofs.laws.pieces_law.Goals as goal

pub returns : goal.returns
returns c = record {
  pieces = λ kept cs r h. stands-pieces kept r cs h;
  latest = λ kept r h. stands-latest kept r h;
}
