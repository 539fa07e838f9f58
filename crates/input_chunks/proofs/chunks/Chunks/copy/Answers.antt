use Rattle.std.proofs.Common.{◌≡◌, ◌+◌, ◌≤◌, ◌∙◌, IfSome, ap, arith, drop, length, subst, sym, take}
use Rattle.std.specs.List.{concat}
use Rattle.input_chunks.specs.Ends.{pieces_of}
use Rattle.input_chunks.proofs.Rows.{bytes-from, part-in}
use Rattle.input_chunks.proofs.Kept.{piece-at, pieces-length, rest-many}
use Rattle.input_chunks.proofs.chunks.Chunks.copy.Goals as goal

pub copy_of-requires-clause-inside : goal.copy_of-requires-clause-inside
copy_of-requires-clause-inside c = rest-many c.piece_offset_of-first.result.index c.piece_offset_of-first.result.skip c.args.n (pieces_of c.self.inside.entries.items) (omega (arith, c.piece_offset_of-first.ensures.before, c.requires, ap (λ ps. length (concat ps)) c.self.view_is))

pub returns-in-Some : goal.returns-in-Some
returns-in-Some c =
    let es = c.self.inside.entries.items in
    let ps = pieces_of es in
    let first = c.piece_offset_of-first.result in
    let n = c.args.n in
    let p = c.index-entry.result.now.piece in
    let more = concat (drop (first.index + 1) ps) in
    let i = c.piece_offset_of-first.ensures.index in
    let e = bytes-from ps first.index p (omega (arith, pieces-length es, i)) (piece-at es first.index c.index-entry.result.now i c.index-entry.ensures) in
    let b = subst (λ o. IfSome o (λ b. (b ≡ take n (drop first.skip p)) × (first.skip + n ≤ length p))) c.in-Some.is c.in_ok-bytes.ensures in
    b.0 ∙ sym (part-in p more first.skip n b.1) ∙ ap (λ v. take n (drop first.skip v)) (sym e) ∙ ap (take n) c.piece_offset_of-first.ensures.bytes ∙ ap (λ v. take n (drop c.args.from (concat v))) c.self.view_is
