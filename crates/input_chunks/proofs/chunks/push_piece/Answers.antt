use Rattle.std.proofs.Common.{refl}
use Rattle.input_chunks.specs.declared.piece_with_end.PieceWithEnd.{PieceWithEnd}
use Rattle.input_chunks.proofs.Kept.{with-apart}
use Rattle.input_chunks.proofs.chunks.push_piece.Goals as goal

pub returns-clause-ok : goal.returns-clause-ok
returns-clause-ok c =
    let x : PieceWithEnd = record { piece = c.in_ok-piece.piece; end = c.args.end } in
    with-apart c.args.bytes.now c.args.end x c.args.entries.now.items c.extend_last.new.entries.items _ (c.in_ok-extend_last.ensures.apart c.if-branch.false) c.in_ok-piece.ensures refl (c.in_ok-extend_last.ensures.same c.if-branch.false) c.in_ok-push_back.ensures.items
