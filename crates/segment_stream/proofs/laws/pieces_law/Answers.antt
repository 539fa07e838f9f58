use Rattle.segment_stream.proofs.StreamLaws.{stands-pieces, stands-latest}
use Rattle.segment_stream.proofs.laws.pieces_law.Goals as goal

pub returns : goal.returns
returns c = record { pieces = stands-pieces; latest = stands-latest }
