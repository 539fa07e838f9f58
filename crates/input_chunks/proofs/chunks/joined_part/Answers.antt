use Rattle.std.proofs.Common.{◌≡◌, ◌∙◌, ◌+◌, ◌-◌, ◌++◌, [], List, ℕ, length, take, drop, refl, ap, subst, IfSome, arith, length-drop}
use Rattle.std.specs.List.{concat}
use Rattle.std.proofs.lemmas.List.{take_all}
use Rattle.input_chunks.proofs.Rows.{bytes-from, copy-end, copy-through}
use Rattle.input_chunks.specs.Ends.{pieces_of}
use Rattle.input_chunks.proofs.Kept.{pieces-length, piece-at}
use Rattle.input_chunks.proofs.chunks.joined_part.Goals as goal

pub pieces-init : goal.pieces-init
pieces-init c =
    let es = c.args.entries.now.items in
    let ps = pieces_of es in
    let p = c.index-entry.result.now.piece in
    let skip = c.args.skip in
    let e = bytes-from ps c.args.first p (omega (arith, pieces-length es, c.requires)) (piece-at es c.args.first c.index-entry.result.now c.requires c.index-entry.ensures) in
    let len = c.len-len.ensures in
    let part : c.in_ok-bytes.bytes ≡ [] ++ drop skip p = c.in_ok-bytes.ensures ∙ ap (λ m. take (m - skip) (drop skip p)) len ∙ take_all (length p - skip) (drop skip p) (omega (arith, length-drop skip p)) in
    copy-through [] _ (drop skip p) p p (concat (drop (c.args.first + 1) ps)) _ _ skip c.args.n (c.args.n - (c.len-len.result - skip)) part refl refl e (omega arith) (omega arith) (omega arith) refl

pub pieces-preserved : goal.pieces-preserved
pieces-preserved c =
    let es = c.args.entries.now.items in
    let ps = pieces_of es in
    let p = c.index-next.result.now.piece in
    let i = c.pieces.i in
    let e = bytes-from ps i p (omega (arith, pieces-length es)) (piece-at es i c.index-next.result.now (omega arith) c.index-next.ensures) in
    let len = c.len-next_len.ensures in
    let all : c.min-more.result ≡ length p = omega (arith, c.min-more.ensures, len, c.if-len_left-next_len.false) in
    let more = c.extend_shared.ensures.extended c.if-not-extend_shared.false ∙ ap (λ m. c.pieces.bytes ++ take m p) all ∙ ap (λ q. c.pieces.bytes ++ q) (take_all (length p) p (omega arith)) in
    copy-through c.pieces.bytes _ p p p (concat (drop (i + 1) ps)) _ _ 0 c.pieces.len_left (c.pieces.len_left - c.len-next_len.result) more refl refl e (omega arith) (omega arith) (omega arith) c.pieces.invariant

pub returns-then-len_left-next_len : goal.returns-then-len_left-next_len
returns-then-len_left-next_len c =
    let es = c.args.entries.now.items in
    let ps = pieces_of es in
    let p = c.index-next.result.now.piece in
    let i = c.pieces.i in
    let e = bytes-from ps i p (omega (arith, pieces-length es)) (piece-at es i c.index-next.result.now (omega arith) c.index-next.ensures) in
    let len = c.len-next_len.ensures in
    let last : c.min-more.result ≡ c.pieces.len_left = omega (arith, c.min-more.ensures, len, c.if-len_left-next_len.true) in
    let joined = c.extend_shared.ensures.extended c.if-not-extend_shared.false in
    let whole = copy-end c.pieces.bytes _ (take c.min-more.result p) p p p (concat (drop (i + 1) ps)) _ _ 0 c.pieces.len_left joined (ap (λ m. take m p) last) refl refl e (omega (arith, len, c.if-len_left-next_len.true)) c.pieces.invariant in
    subst (λ (bytes : List ℕ). IfSome c.if_long.result (λ b. b ≡ bytes)) whole c.if_long.ensures
