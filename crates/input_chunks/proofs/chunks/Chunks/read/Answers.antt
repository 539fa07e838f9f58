use Rattle.std.proofs.Common.{ap, arith, length}
use Rattle.std.specs.List.{concat}
use Rattle.input_chunks.specs.Ends.{pieces_of}
use Rattle.input_chunks.proofs.Kept.{rest-many}
use Rattle.input_chunks.proofs.chunks.Chunks.read.Goals as goal

pub read_of-requires : goal.read_of-requires
read_of-requires c = record { inside = rest-many c.piece_offset_of-place.result.index c.piece_offset_of-place.result.skip (length c.args.into.now) (pieces_of c.self.inside.entries.items) (omega (arith, c.piece_offset_of-place.ensures.before, c.requires, ap (λ ps. length (concat ps)) c.self.view_is)) }
