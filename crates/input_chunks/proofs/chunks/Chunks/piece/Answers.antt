use Rattle.std.proofs.Common.{Some, slice_get, length, ◌∙◌, ap, arith}
use Rattle.input_chunks.proofs.Kept.{pieces-length, piece-get}
use Rattle.input_chunks.proofs.chunks.Chunks.piece.Goals as goal

pub index-entry-requires : goal.index-entry-requires
index-entry-requires c = omega (arith, pieces-length c.self.inside.entries.items, ap length c.self.view_is)

pub returns : goal.returns
returns c =
    let l = pieces-length c.self.inside.entries.items in
    ap Some c.as_slice.ensures ∙ piece-get c.self.inside.entries.items c.args.i c.index-entry.result.now (omega (arith, l, ap length c.self.view_is)) c.index-entry.ensures ∙ ap (λ ps. slice_get ps c.args.i) c.self.view_is
