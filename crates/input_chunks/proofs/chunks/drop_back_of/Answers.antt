use Rattle.std.proofs.Common.{◌-◌, ◌∷◌, [], ◌++◌, length, ap, ◌∙◌, sym, subst, arith, refl}
use Rattle.std.specs.List.{concat}
use Rattle.std.proofs.lemmas.List.{length-take-le}
use Rattle.input_chunks.specs.declared.piece_with_end.PieceWithEnd.{PieceWithEnd}
use Rattle.input_chunks.specs.Pieces.{first_pieces, HasNoEmptyPiece}
use Rattle.input_chunks.specs.Ends.{pieces_of, HasEnds}
use Rattle.input_chunks.proofs.Rows.{front-less, front-last, front-all, none-front}
use Rattle.input_chunks.proofs.Kept.{pieces-popped, bytes-popped, ended-cut, ended-front}
use Rattle.input_chunks.proofs.chunks.drop_back_of.Goals as goal

pub returns-then-len_left-len-clause-pieces : goal.returns-then-len_left-len-clause-pieces
returns-then-len_left-len-clause-pieces c =
    let m = length (concat (pieces_of c.args.entries.now.items)) - c.args.n in
    let front = c.pop_back.new.self.items in
    let last = c.in-Some.last in
    let x : PieceWithEnd = record { piece = c.truncate.new.self; end = c.args.end } in
    let e = pieces-popped front c.entries.entries.items last c.in-Some.ensures.items in
    let l = bytes-popped front c.entries.entries.items last c.in-Some.ensures.items in
    let k = c.len-len.result - c.entries.len_left in
    pieces-popped front _ x c.push_back_reserved.ensures.items ∙ ap (λ p. pieces_of front ++ p ∷ []) c.truncate.ensures ∙ sym (front-last m k last.piece (pieces_of front) (omega (arith, l, c.entries.invariant.room, c.len-len.ensures)) (omega arith) (omega (arith, c.len-len.ensures))) ∙ sym (ap (first_pieces m) e) ∙ c.entries.invariant.same

pub returns-then-len_left-len-clause-ended : goal.returns-then-len_left-len-clause-ended
returns-then-len_left-len-clause-ended c = λ at h q.
    let front = c.pop_back.new.self.items in
    let last = c.in-Some.last in
    let x : PieceWithEnd = record { piece = c.truncate.new.self; end = c.args.end } in
    let l = bytes-popped front c.entries.entries.items last c.in-Some.ensures.items in
    let k = c.len-len.result - c.entries.len_left in
    ended-cut c.args.end _ last x front c.entries.entries.items _ c.in-Some.ensures.items refl (omega (arith, l, c.entries.invariant.room, c.len-len.ensures, ap length c.truncate.ensures, length-take-le k last.piece (omega (arith, c.len-len.ensures)))) c.push_back_reserved.ensures.items at (c.entries.invariant.ended at h) q

pub entries-preserved : goal.entries-preserved
entries-preserved c =
    let m = length (concat (pieces_of c.args.entries.now.items)) - c.args.n in
    let front = c.pop_back.new.self.items in
    let last = c.in-Some.last in
    let e = pieces-popped front c.entries.entries.items last c.in-Some.ensures.items in
    let l = bytes-popped front c.entries.entries.items last c.in-Some.ensures.items in
    record {
      same = sym (front-less m last.piece (pieces_of front) (omega (arith, l, c.entries.invariant.room, c.len-len.ensures))) ∙ sym (ap (first_pieces m) e) ∙ c.entries.invariant.same;
      room = omega (arith, l, c.entries.invariant.room, c.len-len.ensures);
      none_empty = none-front (pieces_of front) (last.piece ∷ []) (subst HasNoEmptyPiece e c.entries.invariant.none_empty);
      ended = λ at h. ended-front front last at (subst (HasEnds at) c.in-Some.ensures.items (c.entries.invariant.ended at h));
    }

pub returns-clause-pieces : goal.returns-clause-pieces
returns-clause-pieces c =
    let m = length (concat (pieces_of c.args.entries.now.items)) - c.args.n in
    sym (front-all m (pieces_of c.entries.entries.items) (omega (arith, c.entries.invariant.room)) c.entries.invariant.none_empty) ∙ c.entries.invariant.same
