use Rattle.std.proofs.Common.{length, ap, arith}
use Rattle.input_chunks.proofs.Kept.{pieces-length}
use Rattle.input_chunks.proofs.chunks.Chunks.pieces.Goals as goal

pub returns : goal.returns
returns c = omega (arith, c.len.ensures, pieces-length c.self.inside.entries.items, ap length c.self.view_is)
