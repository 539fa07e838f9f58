-- Pieces with their ends.
use Rattle.std.proofs.Common.{◌≡◌, ℕ, zero, suc, ◌+◌, ◌-◌, ◌%◌, ◌^◌, ◌<◌, ◌≤◌, List, [], ◌∷◌, ◌++◌, length, take, drop, get_or, slice_get, Some, refl, ap, sym, ◌∙◌, subst, zero-add, arith}
use Rattle.std.specs.List.{concat}
use Rattle.std.proofs.lemmas.List.{length-append, length-drop, length-take-le, append_assoc, append-nil, take_all, drop_all}
use Rattle.input_chunks.specs.declared.piece_with_end.PieceWithEnd.{PieceWithEnd}
use Rattle.input_chunks.specs.Ends.{pieces_of, HasEnds, IsWith, IsApart}
use Rattle.input_chunks.specs.Pieces.{pieces_with_tail, pieces_without_last, HasNoEmptyPiece}
use Rattle.input_chunks.proofs.Rows.{bytes-added, none-added, pushed-is, back-again, push-apart, push-joined, bytes-last, copy-end, drop-nil, take-nil}

pub pieces-append : (xs ys : List PieceWithEnd) → pieces_of (xs ++ ys) ≡ pieces_of xs ++ pieces_of ys
pieces-append [] ys = refl
pieces-append (x ∷ xs) ys = ap (λ ps. x.piece ∷ ps) (pieces-append xs ys)

pub pieces-length : (xs : List PieceWithEnd) → length (pieces_of xs) ≡ length xs
pieces-length [] = refl
pieces-length (x ∷ xs) = ap suc (pieces-length xs)

pub piece-at : (xs : List PieceWithEnd) (i : ℕ) (e : PieceWithEnd) → i < length xs → e ≡ get_or xs i e → e.piece ≡ get_or (pieces_of xs) i e.piece
piece-at [] i e h q = absurd (omega arith)
piece-at (x ∷ xs) zero e h q = ap (λ (y : PieceWithEnd). y.piece) q
piece-at (x ∷ xs) (suc i) e h q = piece-at xs i e (omega arith) q

pub piece-get : (xs : List PieceWithEnd) (i : ℕ) (e : PieceWithEnd) → i < length xs → e ≡ get_or xs i e → Some e.piece ≡ slice_get (pieces_of xs) i
piece-get [] i e h q = absurd (omega arith)
piece-get (x ∷ xs) zero e h q = ap (λ (y : PieceWithEnd). Some y.piece) q
piece-get (x ∷ xs) (suc i) e h q = piece-get xs i e (omega arith) q

-- ---- ends

pub ended-push : (xs : List PieceWithEnd) (e : PieceWithEnd) (at : ℕ) → HasEnds at xs → e.end ≡ (at + (length (concat (pieces_of xs)) + length e.piece)) % 2 ^ 64 → HasEnds at (xs ++ e ∷ [])
ended-push [] e at h q = (q ∙ ap (λ n. (at + n) % 2 ^ 64) (zero-add (length e.piece)), tt)
ended-push (x ∷ xs) e at h q =
    let z : at + (length (concat (pieces_of (x ∷ xs))) + length e.piece) ≡ at + length x.piece + (length (concat (pieces_of xs)) + length e.piece) = omega (arith, length-append x.piece (concat (pieces_of xs))) in
    (h.0, ended-push xs e (at + length x.piece) h.1 (q ∙ ap (λ n. n % 2 ^ 64) z))

pub ended-front : (xs : List PieceWithEnd) (e : PieceWithEnd) (at : ℕ) → HasEnds at (xs ++ e ∷ []) → HasEnds at xs
ended-front [] e at h = tt
ended-front (x ∷ xs) e at h = (h.0, ended-front xs e (at + length x.piece) h.1)

-- the end of piece i
pub ended-at : (xs : List PieceWithEnd) (i : ℕ) (e : PieceWithEnd) (at : ℕ) → i < length xs → e ≡ get_or xs i e → HasEnds at xs → e.end ≡ (at + length (concat (take (suc i) (pieces_of xs)))) % 2 ^ 64
ended-at [] i e at h q k = absurd (omega arith)
ended-at (x ∷ xs) zero e at h q k =
    ap (λ (y : PieceWithEnd). y.end) q ∙ k.0 ∙ ap (λ n. (at + n) % 2 ^ 64) (let l = length-append x.piece [] in omega arith)
ended-at (x ∷ xs) (suc i) e at h q k =
    let z : at + length x.piece + length (concat (take (suc i) (pieces_of xs))) ≡ at + length (concat (take (suc (suc i)) (pieces_of (x ∷ xs)))) = omega (arith, length-append x.piece (concat (take (suc i) (pieces_of xs)))) in
    ended-at xs i e (at + length x.piece) (omega arith) q k.1 ∙ ap (λ n. n % 2 ^ 64) z

mod-more : (a b l : ℕ) → a % 2 ^ 64 ≡ b % 2 ^ 64 → (a + l) % 2 ^ 64 ≡ (b + l) % 2 ^ 64
mod-more a b l h = omega arith

-- only what is left modulo 2^64 matters
pub ended-same : (xs : List PieceWithEnd) (a b : ℕ) → a % 2 ^ 64 ≡ b % 2 ^ 64 → HasEnds a xs → HasEnds b xs
ended-same [] a b h k = tt
ended-same (x ∷ xs) a b h k =
    let g = mod-more a b (length x.piece) h in
    (k.0 ∙ g, ended-same xs (a + length x.piece) (b + length x.piece) g k.1)

-- a number is found again from what is left of its sum
pub wrap-back : (b s : ℕ) → b < 2 ^ 64 → s < 2 ^ 64 → ((b + s) % 2 ^ 64 + (2 ^ 64 - b)) % 2 ^ 64 ≡ s
wrap-back b s h k = omega arith

-- ---- bytes before and behind a piece

pub bytes-split : (i : ℕ) (ps : List (List ℕ)) → concat ps ≡ concat (take i ps) ++ concat (drop i ps)
bytes-split zero ps = refl
bytes-split (suc i) [] = refl
bytes-split (suc i) (p ∷ ps) = ap (λ v. p ++ v) (bytes-split i ps) ∙ sym (append_assoc p (concat (take i ps)) (concat (drop i ps)))

pub front-few : (i : ℕ) (ps : List (List ℕ)) → length (concat (take i ps)) ≤ length (concat ps)
front-few i ps = omega (arith, ap length (bytes-split i ps), length-append (concat (take i ps)) (concat (drop i ps)))

drop-past : (xs ys : List ℕ) (skip n : ℕ) → length xs + skip ≡ n → drop skip ys ≡ drop n (xs ++ ys)
drop-past [] ys skip n e = ap (λ m. drop m ys) (sym (zero-add skip) ∙ e)
drop-past (x ∷ xs) ys skip zero e = absurd (omega arith)
drop-past (x ∷ xs) ys skip (suc n) e = drop-past xs ys skip n (omega arith)

pub bytes-at : (i skip from : ℕ) (ps : List (List ℕ)) → length (concat (take i ps)) + skip ≡ from → drop skip (concat (drop i ps)) ≡ drop from (concat ps)
bytes-at i skip from ps e = drop-past (concat (take i ps)) (concat (drop i ps)) skip from e ∙ ap (drop from) (sym (bytes-split i ps))

pub rest-many : (i skip n : ℕ) (ps : List (List ℕ)) → length (concat (take i ps)) + skip + n ≤ length (concat ps) → skip + n ≤ length (concat (drop i ps))
rest-many i skip n ps h = omega (arith, ap length (bytes-split i ps), length-append (concat (take i ps)) (concat (drop i ps)))

-- ---- a push

pub bytes-apart : (bytes : List ℕ) (last : PieceWithEnd) (front old : List PieceWithEnd) → old ≡ front ++ last ∷ [] → 4096 < length last.piece + length bytes → IsApart bytes (pieces_of old)
bytes-apart bytes last front old e h =
    let p : pieces_of old ≡ pieces_of front ++ last.piece ∷ [] = ap pieces_of e ∙ pieces-append front (last ∷ []) in
    sym (push-apart bytes last.piece (pieces_of front) (pieces_of old) _ p h refl) ∙ ap (λ ps. ps ++ bytes ∷ []) (sym p)

pub with-apart : (bytes : List ℕ) (end : ℕ) (x : PieceWithEnd) (old same new : List PieceWithEnd) → IsApart bytes (pieces_of old) → x.piece ≡ bytes → x.end ≡ end → same ≡ old → new ≡ same ++ x ∷ [] → IsWith bytes end old new
with-apart bytes end x old same new e p w o g = let f : new ≡ old ++ x ∷ [] = g ∙ ap (λ es. es ++ x ∷ []) o in record {
  pieces = ap pieces_of f ∙ pieces-append old (x ∷ []) ∙ ap (λ b. pieces_of old ++ b ∷ []) p ∙ sym e;
  ends = λ at h q. subst (HasEnds at) (sym f) (ended-push old x at h (w ∙ q ∙ ap (λ b. (at + (length (concat (pieces_of old)) + length b)) % 2 ^ 64) (sym p)));
}

entry-joined : (bytes : List ℕ) (last x : PieceWithEnd) (front old new : List PieceWithEnd) → old ≡ front ++ last ∷ [] → length last.piece + length bytes ≤ 4096 → x.piece ≡ last.piece ++ bytes → new ≡ front ++ x ∷ [] → pieces_of new ≡ pieces_with_tail bytes (pieces_of old)
entry-joined bytes last x front old new e h p g =
    push-joined bytes last.piece (pieces_of front) (pieces_of old) (pieces_of new) (ap pieces_of e ∙ pieces-append front (last ∷ [])) h (ap pieces_of g ∙ pieces-append front (x ∷ []) ∙ ap (λ q. pieces_of front ++ q ∷ []) p)

bytes-of : (front : List PieceWithEnd) (last : PieceWithEnd) → length (concat (pieces_of (front ++ last ∷ []))) ≡ length (concat (pieces_of front)) + length last.piece
bytes-of front last = ap (λ ps. length (concat ps)) (pieces-append front (last ∷ [])) ∙ bytes-last (pieces_of front) last.piece

ended-joined : (bytes : List ℕ) (end : ℕ) (last x : PieceWithEnd) (front old new : List PieceWithEnd) → old ≡ front ++ last ∷ [] → x.piece ≡ last.piece ++ bytes → x.end ≡ end → new ≡ front ++ x ∷ [] → (at : ℕ) → HasEnds at old → end ≡ (at + (length (concat (pieces_of old)) + length bytes)) % 2 ^ 64 → HasEnds at new
ended-joined bytes end last x front old new e p w g at h q =
    let z : at + (length (concat (pieces_of old)) + length bytes) ≡ at + (length (concat (pieces_of front)) + length x.piece) = omega (arith, ap (λ es. length (concat (pieces_of es))) e, bytes-of front last, ap length p, length-append last.piece bytes) in
    subst (HasEnds at) (sym g) (ended-push front x at (ended-front front last at (subst (HasEnds at) e h)) (w ∙ q ∙ ap (λ n. n % 2 ^ 64) z))

pub with-joined : (bytes : List ℕ) (end : ℕ) (last x : PieceWithEnd) (front old new : List PieceWithEnd) → old ≡ front ++ last ∷ [] → length last.piece + length bytes ≤ 4096 → x.piece ≡ last.piece ++ bytes → x.end ≡ end → new ≡ front ++ x ∷ [] → IsWith bytes end old new
with-joined bytes end last x front old new e h p w g = record {
  pieces = entry-joined bytes last x front old new e h p g;
  ends = ended-joined bytes end last x front old new e p w g;
}

-- what holds of the pieces, their length and their ends, before and after a push
pub push-holds : (dropped len more end : ℕ) (bytes : List ℕ) (old new : List PieceWithEnd) → more ≡ length bytes → 0 < length bytes → HasNoEmptyPiece (pieces_of old) → len ≡ length (concat (pieces_of old)) → HasEnds dropped old → end ≡ (dropped + (len + more)) % 2 ^ 64 → IsWith bytes end old new → HasNoEmptyPiece (pieces_of new) × (len + more ≡ length (concat (pieces_of new))) × HasEnds dropped new
push-holds dropped len more end bytes old new m z k e h q w =
    let ps = pieces_of old in
    let l = ap (λ qs. length (concat qs)) w.pieces ∙ ap length (bytes-added bytes ps) ∙ length-append (concat ps) bytes in (
      subst HasNoEmptyPiece (sym w.pieces) (none-added bytes ps z k),
      omega (arith, l, e, m),
      w.ends dropped h (q ∙ ap (λ n. (dropped + n) % 2 ^ 64) (omega (arith, e, m))),
    )

pub push-undone : (bytes : List ℕ) (end : ℕ) (old new : List PieceWithEnd) → 0 < length bytes → HasNoEmptyPiece (pieces_of old) → IsWith bytes end old new → pieces_without_last (length bytes) (pieces_of new) ≡ pieces_of old
push-undone bytes end old new z k w =
    ap (pieces_without_last (length bytes)) (w.pieces ∙ sym (pushed-is bytes (pieces_of old) z)) ∙ back-again bytes (pieces_of old) k

-- ---- the last piece is cut

pub ended-cut : (end total : ℕ) (last x : PieceWithEnd) (front old new : List PieceWithEnd) → old ≡ front ++ last ∷ [] → x.end ≡ end → length (concat (pieces_of front)) + length x.piece ≡ total → new ≡ front ++ x ∷ [] → (at : ℕ) → HasEnds at old → end ≡ (at + total) % 2 ^ 64 → HasEnds at new
ended-cut end total last x front old new e w t g at h q =
    subst (HasEnds at) (sym g) (ended-push front x at (ended-front front last at (subst (HasEnds at) e h)) (w ∙ q ∙ ap (λ n. (at + n) % 2 ^ 64) (sym t)))

pub bytes-popped : (front old : List PieceWithEnd) (last : PieceWithEnd) → old ≡ front ++ last ∷ [] → length (concat (pieces_of old)) ≡ length (concat (pieces_of front)) + length last.piece
bytes-popped front old last e = ap (λ es. length (concat (pieces_of es))) e ∙ bytes-of front last

pub pieces-popped : (front old : List PieceWithEnd) (last : PieceWithEnd) → old ≡ front ++ last ∷ [] → pieces_of old ≡ pieces_of front ++ last.piece ∷ []
pieces-popped front old last e = ap pieces_of e ∙ pieces-append front (last ∷ [])

pub mod-mod : (a : ℕ) → a % 2 ^ 64 ≡ a % 2 ^ 64 % 2 ^ 64
mod-mod a = omega arith

pub some-bytes : (es : List PieceWithEnd) (n : ℕ) → n < length (concat (pieces_of es)) → 0 < length es
some-bytes [] n h = absurd (omega arith)
some-bytes (e ∷ es) n h = omega arith

-- ---- the ends of the loops over pieces

nothing-left : (skip left : ℕ) (es : List PieceWithEnd) (i : ℕ) → length es ≤ i → take left (drop skip (concat (drop i (pieces_of es)))) ≡ []
nothing-left skip left es i h =
    let z : drop i (pieces_of es) ≡ [] = drop_all i (pieces_of es) (omega (arith, pieces-length es)) in
    ap (λ ps. take left (drop skip (concat ps))) z ∙ ap (take left) (drop-nil skip) ∙ take-nil left

pub copy-done : (into target : List ℕ) (es : List PieceWithEnd) (i skip left : ℕ) → length es ≤ i → into ++ take left (drop skip (concat (drop i (pieces_of es)))) ≡ target → into ≡ target
copy-done into target es i skip left h e = sym (append-nil into) ∙ ap (λ v. into ++ v) (sym (nothing-left skip left es i h)) ∙ e

pub none-left : (es : List PieceWithEnd) (i : ℕ) → length es ≤ i → length (concat (drop i (pieces_of es))) ≡ 0
none-left es i h = ap (λ ps. length (concat ps)) (drop_all i (pieces_of es) (omega (arith, pieces-length es)))

pub read-end : (new old part rest bytes p more all target : List ℕ) (filled skip left : ℕ) → take (filled + length part) new ≡ take filled old ++ part → length new ≡ length old → filled + left ≡ length old → part ≡ take left rest → rest ≡ drop skip bytes → bytes ≡ p → all ≡ p ++ more → skip + left ≤ length p → take filled old ++ take left (drop skip all) ≡ target → new ≡ target
read-end new old part rest bytes p more all target filled skip left f n w a b d e h g =
    let l : length part ≡ left = ap length (a ∙ ap (take left) (b ∙ ap (drop skip) d)) ∙ length-take-le left (drop skip p) (omega (arith, length-drop skip p)) in
    copy-end (take filled old) new part rest bytes p more all target skip left (sym (take_all (filled + length part) new (omega arith)) ∙ f) a b d e h g
