use Rattle.std.proofs.Common.{subst, refl}
use Rattle.input_chunks.specs.declared.piece_with_end.PieceWithEnd.{PieceWithEnd}
use Rattle.input_chunks.specs.Ends.{pieces_of, IsApart}
use Rattle.input_chunks.proofs.Kept.{with-apart}
use Rattle.input_chunks.proofs.chunks.push_owned.Goals as goal

pub returns-clause-ok : goal.returns-clause-ok
returns-clause-ok c =
    let x : PieceWithEnd = record { piece = c.args.bytes; end = c.args.end } in
    with-apart c.args.bytes c.args.end x c.args.entries.now.items c.extend_last.new.entries.items _ (subst (λ b. IsApart b (pieces_of c.args.entries.now.items)) c.as_slice.ensures (c.in_ok-extend_last.ensures.apart c.if-branch.false)) refl refl (c.in_ok-extend_last.ensures.same c.if-branch.false) c.in_ok-push_back.ensures.items
