use Rattle.std.proofs.Common.{List, ℕ, [], ◌∷◌, ◌++◌, ap, sym, ◌∙◌}
use Rattle.remux.proofs.SegmentLaws.{next-piece}
use Rattle.remux.proofs.classic.pieces_in.Goals as goal

pub loop-i-preserved : goal.loop-i-preserved
loop-i-preserved c =
    let piece = c.in_ok-piece.field-0 in
    c.in_ok-push.ensures.items ∙ (ap (λ (ps : List (List ℕ)). ps ++ piece ∷ []) c.loop-i.invariant ∙ sym (next-piece c.args.file.now c.loop-i.i piece c.in_ok-piece.ensures))
