use Rattle.std.proofs.Common.{◌+◌, ◌-◌, ◌%◌, ◌^◌, length, ap, ◌∙◌, sym, subst, arith}
use Rattle.std.specs.List.{concat}
use Rattle.std.proofs.lemmas.List.{length-take-le}
use Rattle.input_chunks.specs.Pieces.{HasNoEmptyPiece}
use Rattle.input_chunks.specs.Ends.{pieces_of}
use Rattle.input_chunks.proofs.Rows.{bytes-front, none-front_of}
use Rattle.input_chunks.proofs.chunks.Chunks.drop_back.Goals as goal

pub invariant_of-self : goal.invariant_of-self
invariant_of-self c =
    let ps = pieces_of c.self.inside.entries.items in
    let d = c.self.inside.dropped in
    let m = length (concat ps) - c.args.n in
    let e = c.drop_back_of.ensures.pieces in
    let l = ap (λ qs. length (concat qs)) e ∙ ap length (bytes-front m ps) ∙ length-take-le m (concat ps) (omega arith) in (
      subst HasNoEmptyPiece (sym e) (none-front_of m ps c.self.invariant.0),
      omega (arith, l, c.self.invariant.1),
      c.drop_back_of.ensures.ended d c.self.invariant.2 (ap (λ n. (d + (n - c.args.n)) % 2 ^ 64) c.self.invariant.1),
    )
