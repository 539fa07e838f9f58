-- The bytes of pieces, and pieces one by one.
use Rattle.std.proofs.Common.{◌≡◌, ℕ, zero, suc, ◌+◌, ◌-◌, ◌<◌, ◌≤◌, leb, cond, Bool, true, false, List, [], ◌∷◌, ◌++◌, length, take, drop, get_or, refl, ap, sym, ◌∙◌, arith}
use Rattle.std.specs.List.{concat}
use Rattle.std.proofs.lemmas.List.{append-nil, append_assoc, length-append, length-drop, take_all, take-append-le, drop-append-le}
use Rattle.std.proofs.lemmas.Bool.Decides.{nat_tests}
use Rattle.input_chunks.specs.Pieces.{pieces_with_tail, pieces_with, pieces_without_first, first_pieces, pieces_without_last, HasNoEmptyPiece}

-- ---- push

pub added-last : (bytes last : List ℕ) (front : List (List ℕ)) → pieces_with_tail bytes (front ++ last ∷ []) ≡ front ++ pieces_with_tail bytes (last ∷ [])
added-last bytes last [] = refl
added-last bytes last (p ∷ []) = refl
added-last bytes last (p ∷ q ∷ front) = ap (λ ps. p ∷ ps) (added-last bytes last (q ∷ front))

bytes-pair : (bytes p : List ℕ) (b : Bool) → concat (cond b ((p ++ bytes) ∷ []) (p ∷ bytes ∷ [])) ≡ (p ++ []) ++ bytes
bytes-pair bytes p true = append-nil (p ++ bytes) ∙ ap (λ v. v ++ bytes) (sym (append-nil p))
bytes-pair bytes p false = ap (λ v. p ++ v) (append-nil bytes) ∙ ap (λ v. v ++ bytes) (sym (append-nil p))

pub bytes-added : (bytes : List ℕ) (ps : List (List ℕ)) → concat (pieces_with_tail bytes ps) ≡ concat ps ++ bytes
bytes-added bytes [] = append-nil bytes
bytes-added bytes (p ∷ []) = bytes-pair bytes p (leb (length p + length bytes) 4096)
bytes-added bytes (p ∷ q ∷ ps) = ap (λ v. p ++ v) (bytes-added bytes (q ∷ ps)) ∙ sym (append_assoc p (concat (q ∷ ps)) bytes)

pub bytes-pushed : (bytes : List ℕ) (ps : List (List ℕ)) → concat (pieces_with bytes ps) ≡ concat ps ++ bytes
bytes-pushed [] ps = sym (append-nil (concat ps))
bytes-pushed (x ∷ bytes) ps = bytes-added (x ∷ bytes) ps

none-pair : (bytes p : List ℕ) (b : Bool) → 0 < length bytes → 0 < length p → HasNoEmptyPiece (cond b ((p ++ bytes) ∷ []) (p ∷ bytes ∷ []))
none-pair bytes p true h k = (omega (arith, length-append p bytes), tt)
none-pair bytes p false h k = (k, (h, tt))

pub none-added : (bytes : List ℕ) (ps : List (List ℕ)) → 0 < length bytes → HasNoEmptyPiece ps → HasNoEmptyPiece (pieces_with_tail bytes ps)
none-added bytes [] h k = (h, tt)
none-added bytes (p ∷ []) h k = none-pair bytes p (leb (length p + length bytes) 4096) h k.0
none-added bytes (p ∷ q ∷ ps) h k = (k.0, none-added bytes (q ∷ ps) h k.1)

pub pushed-is : (bytes : List ℕ) (ps : List (List ℕ)) → 0 < length bytes → pieces_with bytes ps ≡ pieces_with_tail bytes ps
pushed-is [] ps h = absurd (omega arith)
pushed-is (x ∷ bytes) ps h = refl

-- ---- parts of lists

pub take-over : (p b : List ℕ) (n : ℕ) → length p ≤ n → take n (p ++ b) ≡ p ++ take (n - length p) b
take-over [] b n h = ap (λ m. take m b) (omega arith)
take-over (x ∷ p) b zero h = absurd (omega arith)
take-over (x ∷ p) b (suc n) h = let e : n - length p ≡ suc n - suc (length p) = omega arith in ap (λ v. x ∷ v) (take-over p b n (omega arith) ∙ ap (λ m. p ++ take m b) e)

pub drop-over : (p b : List ℕ) (n : ℕ) → length p ≤ n → drop n (p ++ b) ≡ drop (n - length p) b
drop-over [] b n h = ap (λ m. drop m b) (omega arith)
drop-over (x ∷ p) b zero h = absurd (omega arith)
drop-over (x ∷ p) b (suc n) h = let e : n - length p ≡ suc n - suc (length p) = omega arith in drop-over p b n (omega arith) ∙ ap (λ m. drop m b) e

pub drop-nil : (n : ℕ) → drop {A = ℕ} n [] ≡ []
drop-nil zero = refl
drop-nil (suc n) = refl

le-of : (a b : ℕ) → leb a b ≡ true → a ≤ b
le-of a b e = grind (arith, nat_tests)

gt-of : (a b : ℕ) → leb a b ≡ false → b < a
gt-of a b e = grind (arith, nat_tests)

is-le : (a b : ℕ) → a ≤ b → leb a b ≡ true
is-le a b h = grind (arith, nat_tests)

is-gt : (a b : ℕ) → b < a → leb a b ≡ false
is-gt a b h = grind (arith, nat_tests)

-- ---- without the first bytes

bytes-without-by : (n : ℕ) (p : List ℕ) (ps : List (List ℕ)) (b : Bool) → leb (length p) n ≡ b → concat (pieces_without_first (n - length p) ps) ≡ drop (n - length p) (concat ps) → concat (cond b (pieces_without_first (n - length p) ps) (drop n p ∷ ps)) ≡ drop n (p ++ concat ps)
bytes-without-by n p ps true e h = h ∙ sym (drop-over p (concat ps) n (le-of (length p) n e))
bytes-without-by n p ps false e h = let g = gt-of (length p) n e in sym (drop-append-le n p (concat ps) (omega arith))

pub bytes-without : (n : ℕ) (ps : List (List ℕ)) → concat (pieces_without_first n ps) ≡ drop n (concat ps)
bytes-without n [] = sym (drop-nil n)
bytes-without n (p ∷ ps) = bytes-without-by n p ps (leb (length p) n) refl (bytes-without (n - length p) ps)

none-without-by : (n : ℕ) (p : List ℕ) (ps : List (List ℕ)) (b : Bool) → leb (length p) n ≡ b → HasNoEmptyPiece ps → HasNoEmptyPiece (pieces_without_first (n - length p) ps) → HasNoEmptyPiece (cond b (pieces_without_first (n - length p) ps) (drop n p ∷ ps))
none-without-by n p ps true e k h = h
none-without-by n p ps false e k h = let g = gt-of (length p) n e in (omega (arith, length-drop n p), k)

pub none-without : (n : ℕ) (ps : List (List ℕ)) → HasNoEmptyPiece ps → HasNoEmptyPiece (pieces_without_first n ps)
none-without n [] k = tt
none-without n (p ∷ ps) k = none-without-by n p ps (leb (length p) n) refl k.1 (none-without (n - length p) ps k.1)

pub front-goes : (n : ℕ) (p : List ℕ) (ps : List (List ℕ)) → length p ≤ n → pieces_without_first n (p ∷ ps) ≡ pieces_without_first (n - length p) ps
front-goes n p ps h = ap (λ b. cond b (pieces_without_first (n - length p) ps) (drop n p ∷ ps)) (is-le (length p) n h)

pub front-stays : (n : ℕ) (p : List ℕ) (ps : List (List ℕ)) → n < length p → pieces_without_first n (p ∷ ps) ≡ drop n p ∷ ps
front-stays n p ps h = ap (λ b. cond b (pieces_without_first (n - length p) ps) (drop n p ∷ ps)) (is-gt (length p) n h)

-- ---- the first bytes

front-whole : (n : ℕ) (p : List ℕ) (ps : List (List ℕ)) → 0 < n → length p ≤ n → first_pieces n (p ∷ ps) ≡ p ∷ first_pieces (n - length p) ps
front-whole zero p ps z h = absurd (omega arith)
front-whole (suc n) p ps z h = ap (λ b. cond b (p ∷ first_pieces (suc n - length p) ps) (take (suc n) p ∷ [])) (is-le (length p) (suc n) h)

front-part : (n : ℕ) (p : List ℕ) (ps : List (List ℕ)) → 0 < n → n < length p → first_pieces n (p ∷ ps) ≡ take n p ∷ []
front-part zero p ps z h = absurd (omega arith)
front-part (suc n) p ps z h = ap (λ b. cond b (p ∷ first_pieces (suc n - length p) ps) (take (suc n) p ∷ [])) (is-gt (length p) (suc n) h)

pub front-none : (ps : List (List ℕ)) → first_pieces 0 ps ≡ []
front-none [] = refl
front-none (p ∷ ps) = refl

-- all of them
pub front-all : (n : ℕ) (ps : List (List ℕ)) → n ≡ length (concat ps) → HasNoEmptyPiece ps → first_pieces n ps ≡ ps
front-all n [] e k = refl
front-all n (p ∷ ps) e k =
    let l = length-append p (concat ps) in
    front-whole n p ps (omega (arith, k.0)) (omega arith) ∙ ap (λ qs. p ∷ qs) (front-all (n - length p) ps (omega arith) k.1)

-- the last piece goes, or is shortened
front-less-by : (n : ℕ) (p last : List ℕ) (front : List (List ℕ)) (b : Bool) → first_pieces (n - length p) (front ++ last ∷ []) ≡ first_pieces (n - length p) front → cond b (p ∷ first_pieces (n - length p) (front ++ last ∷ [])) (take n p ∷ []) ≡ cond b (p ∷ first_pieces (n - length p) front) (take n p ∷ [])
front-less-by n p last front true h = ap (λ qs. p ∷ qs) h
front-less-by n p last front false h = refl

pub front-less : (n : ℕ) (last : List ℕ) (front : List (List ℕ)) → n ≤ length (concat front) → first_pieces n (front ++ last ∷ []) ≡ first_pieces n front
front-less zero last front h = front-none (front ++ last ∷ []) ∙ sym (front-none front)
front-less (suc n) last [] h = absurd (omega arith)
front-less (suc n) last (p ∷ front) h = front-less-by (suc n) p last front (leb (length p) (suc n)) (front-less (suc n - length p) last front (omega (arith, length-append p (concat front))))

pub front-last : (n j : ℕ) (last : List ℕ) (front : List (List ℕ)) → n ≡ length (concat front) + j → 0 < j → j < length last → first_pieces n (front ++ last ∷ []) ≡ front ++ take j last ∷ []
front-last n j last [] e z h = front-part n last [] (omega arith) (omega arith) ∙ ap (λ m. take m last ∷ []) (omega arith)
front-last n j last (p ∷ front) e z h =
    let l = length-append p (concat front) in
    front-whole n p (front ++ last ∷ []) (omega arith) (omega arith) ∙ ap (λ qs. p ∷ qs) (front-last (n - length p) j last front (omega arith) z h)

pub none-front : (xs : List (List ℕ)) (ys : List (List ℕ)) → HasNoEmptyPiece (xs ++ ys) → HasNoEmptyPiece xs
none-front [] ys k = tt
none-front (x ∷ xs) ys k = (k.0, none-front xs ys k.1)

pub bytes-last : (front : List (List ℕ)) (last : List ℕ) → length (concat (front ++ last ∷ [])) ≡ length (concat front) + length last
bytes-last [] last = omega (arith, ap length (append-nil last))
bytes-last (p ∷ front) last = omega (arith, length-append p (concat (front ++ last ∷ [])), length-append p (concat front), bytes-last front last)

-- the bytes and the pieces of what is left of the back
none-front_of-by : (n : ℕ) (p : List ℕ) (ps : List (List ℕ)) (b : Bool) → leb (length p) (suc n) ≡ b → 0 < length p → HasNoEmptyPiece (first_pieces (suc n - length p) ps) → HasNoEmptyPiece (cond b (p ∷ first_pieces (suc n - length p) ps) (take (suc n) p ∷ []))
none-front_of-by n p ps true e z h = (z, h)
none-front_of-by n (x ∷ p) ps false e z h = (omega arith, tt)
none-front_of-by n [] ps false e z h = absurd (omega arith)

pub none-front_of : (n : ℕ) (ps : List (List ℕ)) → HasNoEmptyPiece ps → HasNoEmptyPiece (first_pieces n ps)
none-front_of n [] k = tt
none-front_of zero (p ∷ ps) k = tt
none-front_of (suc n) (p ∷ ps) k = none-front_of-by n p ps (leb (length p) (suc n)) refl k.0 (none-front_of (suc n - length p) ps k.1)

pub take-nil : (n : ℕ) → take {A = ℕ} n [] ≡ []
take-nil zero = refl
take-nil (suc n) = refl

bytes-front-by : (n : ℕ) (p : List ℕ) (ps : List (List ℕ)) (b : Bool) → leb (length p) n ≡ b → concat (first_pieces (n - length p) ps) ≡ take (n - length p) (concat ps) → concat (cond b (p ∷ first_pieces (n - length p) ps) (take n p ∷ [])) ≡ take n (p ++ concat ps)
bytes-front-by n p ps true e h = ap (λ v. p ++ v) h ∙ sym (take-over p (concat ps) n (le-of (length p) n e))
bytes-front-by n p ps false e h = let g = gt-of (length p) n e in append-nil (take n p) ∙ sym (take-append-le n p (concat ps) (omega arith))

pub bytes-front : (n : ℕ) (ps : List (List ℕ)) → concat (first_pieces n ps) ≡ take n (concat ps)
bytes-front n [] = sym (take-nil n)
bytes-front zero (p ∷ ps) = refl
bytes-front (suc n) (p ∷ ps) = bytes-front-by (suc n) p ps (leb (length p) (suc n)) refl (bytes-front (suc n - length p) ps)

-- ---- a push that is taken back

back-pair : (n : ℕ) (bytes p : List ℕ) (b : Bool) → n ≡ length p → 0 < length bytes → 0 < length p → first_pieces n (cond b ((p ++ bytes) ∷ []) (p ∷ bytes ∷ [])) ≡ p ∷ []
back-pair n bytes p true e h k =
    let l = length-append p bytes in
    front-part n (p ++ bytes) [] (omega arith) (omega arith) ∙ ap (λ v. v ∷ []) (take-append-le n p bytes (omega arith) ∙ take_all n p (omega arith))
back-pair n bytes p false e h k =
    let z : n - length p ≡ 0 = omega arith in
    front-whole n p (bytes ∷ []) (omega arith) (omega arith) ∙ ap (λ m. p ∷ first_pieces m (bytes ∷ [])) z

front-added : (n : ℕ) (bytes : List ℕ) (ps : List (List ℕ)) → n ≡ length (concat ps) → 0 < length bytes → HasNoEmptyPiece ps → first_pieces n (pieces_with_tail bytes ps) ≡ ps
front-added n bytes [] e h k = ap (λ m. first_pieces m (bytes ∷ [])) e
front-added n bytes (p ∷ []) e h k = back-pair n bytes p (leb (length p + length bytes) 4096) (e ∙ ap length (append-nil p)) h k.0
front-added n bytes (p ∷ q ∷ ps) e h k =
    let l = length-append p (concat (q ∷ ps)) in
    front-whole n p (pieces_with_tail bytes (q ∷ ps)) (omega (arith, k.0)) (omega arith) ∙ ap (λ qs. p ∷ qs) (front-added (n - length p) bytes (q ∷ ps) (omega arith) h k.1)

pub back-again : (bytes : List ℕ) (ps : List (List ℕ)) → HasNoEmptyPiece ps → pieces_without_last (length bytes) (pieces_with bytes ps) ≡ ps
back-again [] ps k = front-all (length (concat ps) - 0) ps (omega arith) k
back-again (x ∷ bytes) ps k =
    let n : ℕ = length (concat (pieces_with_tail (x ∷ bytes) ps)) - length (x ∷ bytes) in
    front-added n (x ∷ bytes) ps (omega (arith, ap length (bytes-added (x ∷ bytes) ps), length-append (concat ps) (x ∷ bytes))) (omega arith) k

-- ---- a part of the bytes, piece by piece

pub part-in : (p more : List ℕ) (skip left : ℕ) → skip + left ≤ length p → take left (drop skip (p ++ more)) ≡ take left (drop skip p)
part-in p more skip left h = ap (take left) (drop-append-le skip p more (omega arith)) ∙ take-append-le left (drop skip p) more (omega (arith, length-drop skip p))

pub part-through : (p more : List ℕ) (skip left next : ℕ) → skip ≤ length p → length p ≤ skip + left → next + length p ≡ skip + left → take left (drop skip (p ++ more)) ≡ drop skip p ++ take next more
part-through p more skip left next h k e =
    let z : left - length (drop skip p) ≡ next = omega (arith, length-drop skip p) in
    ap (take left) (drop-append-le skip p more h) ∙ take-over (drop skip p) more left (omega (arith, length-drop skip p)) ∙ ap (λ m. drop skip p ++ take m more) z

pub part-past : (p more : List ℕ) (skip left : ℕ) → length p ≤ skip → take left (drop skip (p ++ more)) ≡ take left (drop (skip - length p) more)
part-past p more skip left h = ap (take left) (drop-over p more skip h)

pub bytes-from : (ps : List (List ℕ)) (i : ℕ) (p : List ℕ) → i < length ps → p ≡ get_or ps i p → concat (drop i ps) ≡ p ++ concat (drop (i + 1) ps)
bytes-from [] i p h e = absurd (omega arith)
bytes-from (q ∷ ps) zero p h e = ap (λ v. v ++ concat ps) (sym e)
bytes-from (q ∷ ps) (suc i) p h e = let z : suc i + 1 ≡ suc (i + 1) = omega arith in bytes-from ps i p (omega arith) e ∙ ap (λ m. p ++ concat (drop m (q ∷ ps))) (sym z)

-- ---- the loops over pieces

pub copy-end : (out new part rest bytes p more all target : List ℕ) (skip left : ℕ) → new ≡ out ++ part → part ≡ take left rest → rest ≡ drop skip bytes → bytes ≡ p → all ≡ p ++ more → skip + left ≤ length p → out ++ take left (drop skip all) ≡ target → new ≡ target
copy-end out new part rest bytes p more all target skip left a b d e f h g =
    rw (a, b, d, e) (ap (λ v. out ++ v) (sym (part-in p more skip left h)) ∙ ap (λ v. out ++ take left (drop skip v)) (sym f) ∙ g)

pub copy-through : (out new rest bytes p more all target : List ℕ) (skip left next : ℕ) → new ≡ out ++ rest → rest ≡ drop skip bytes → bytes ≡ p → all ≡ p ++ more → skip ≤ length p → length p ≤ skip + left → next + length p ≡ skip + left → out ++ take left (drop skip all) ≡ target → new ++ take next (drop 0 more) ≡ target
copy-through out new rest bytes p more all target skip left next a b d f h k e g =
    rw (a, b, d) (append_assoc out (drop skip p) (take next more) ∙ ap (λ v. out ++ v) (sym (part-through p more skip left next h k e)) ∙ ap (λ v. out ++ take left (drop skip v)) (sym f) ∙ g)

pub copy-past : (out p more all target : List ℕ) (skip left next : ℕ) → all ≡ p ++ more → length p ≤ skip → next + length p ≡ skip → out ++ take left (drop skip all) ≡ target → out ++ take left (drop next more) ≡ target
copy-past out p more all target skip left next f h e g =
    let z : next ≡ skip - length p = omega arith in
    rw z (ap (λ v. out ++ v) (sym (part-past p more skip left h)) ∙ ap (λ v. out ++ take left (drop skip v)) (sym f) ∙ g)

-- what a push does to the pieces, by its last one
pair-apart : (bytes last : List ℕ) → 4096 < length last + length bytes → pieces_with_tail bytes (last ∷ []) ≡ last ∷ bytes ∷ []
pair-apart bytes last h = ap (λ b. cond b ((last ++ bytes) ∷ []) (last ∷ bytes ∷ [])) (is-gt (length last + length bytes) 4096 h)

pair-joined : (bytes last : List ℕ) → length last + length bytes ≤ 4096 → pieces_with_tail bytes (last ∷ []) ≡ (last ++ bytes) ∷ []
pair-joined bytes last h = ap (λ b. cond b ((last ++ bytes) ∷ []) (last ∷ bytes ∷ [])) (is-le (length last + length bytes) 4096 h)

pub push-apart : (bytes last : List ℕ) (front old new : List (List ℕ)) → old ≡ front ++ last ∷ [] → 4096 < length last + length bytes → new ≡ (front ++ last ∷ []) ++ bytes ∷ [] → new ≡ pieces_with_tail bytes old
push-apart bytes last front old new e h g = g ∙ append_assoc front (last ∷ []) (bytes ∷ []) ∙ sym (ap (pieces_with_tail bytes) e ∙ added-last bytes last front ∙ ap (λ ps. front ++ ps) (pair-apart bytes last h))

pub push-joined : (bytes last : List ℕ) (front old new : List (List ℕ)) → old ≡ front ++ last ∷ [] → length last + length bytes ≤ 4096 → new ≡ front ++ (last ++ bytes) ∷ [] → new ≡ pieces_with_tail bytes old
push-joined bytes last front old new e h g = g ∙ sym (ap (pieces_with_tail bytes) e ∙ added-last bytes last front ∙ ap (λ ps. front ++ ps) (pair-joined bytes last h))
