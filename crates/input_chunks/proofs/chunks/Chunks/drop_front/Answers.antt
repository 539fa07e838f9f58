use Rattle.std.proofs.Common.{◌+◌, ◌%◌, ◌^◌, length, ap, ◌∙◌, sym, subst, arith, length-drop}
use Rattle.std.specs.List.{concat}
use Rattle.input_chunks.specs.Pieces.{HasNoEmptyPiece}
use Rattle.input_chunks.specs.Ends.{pieces_of}
use Rattle.input_chunks.proofs.Rows.{bytes-without, none-without}
use Rattle.input_chunks.proofs.Kept.{ended-same, mod-mod}
use Rattle.input_chunks.proofs.chunks.Chunks.drop_front.Goals as goal

pub invariant_of-self : goal.invariant_of-self
invariant_of-self c =
    let n = c.args.n in
    let ps = pieces_of c.self.inside.entries.items in
    let d = c.self.inside.dropped in
    let e = c.drop_front_of.ensures.pieces in
    let l = ap (λ qs. length (concat qs)) e ∙ ap length (bytes-without n ps) ∙ length-drop n (concat ps) in (
      subst HasNoEmptyPiece (sym e) (none-without n ps c.self.invariant.0),
      omega (arith, l, c.self.invariant.1),
      ended-same _ (d + n) ((d + n) % 2 ^ 64) (mod-mod (d + n)) (c.drop_front_of.ensures.ended d c.self.invariant.2),
    )
