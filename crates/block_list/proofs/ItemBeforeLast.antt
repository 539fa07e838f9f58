-- An item that is put before the last: it is appended, and the two change places.
use Rattle.std.proofs.Common.{◌≡◌, ◌∙◌, ℕ, zero, suc, ◌+◌, List, [], ◌∷◌, ◌++◌, length, get_or, set, take, drop, insert, refl, sym, ap, arith, length-append}
use Rattle.std.specs.List.{swap}
use Rattle.std.proofs.lemmas.List.Edits.{swap_is}

swapped : {T : Type 0} (xs : List T) (i : ℕ) (x : T) → suc i ≡ length xs → set (set (xs ++ x ∷ []) i (get_or (xs ++ x ∷ []) (suc i) x)) (suc i) (get_or (xs ++ x ∷ []) i x) ≡ take i xs ++ x ∷ drop i xs
swapped [] i x l = absurd (omega arith)
swapped (y ∷ []) zero x l = refl
swapped (y ∷ z ∷ xs) zero x l = absurd (omega arith)
swapped (y ∷ xs) (suc i) x l = ap (λ ys. y ∷ ys) (swapped xs i x (omega arith))

pub before_last : {T : Type 0} (xs : List T) (i n : ℕ) (x : T) → i + 1 ≡ n → n ≡ length xs → swap (xs ++ x ∷ []) i n ≡ insert xs i x
before_last xs i n x k l =
    let z : suc i ≡ n = omega arith in
    let long = length-append xs (x ∷ []) in
    sym (swap_is (xs ++ x ∷ []) i n x (omega arith) (omega arith)) ∙ ap (λ j. set (set (xs ++ x ∷ []) i (get_or (xs ++ x ∷ []) j x)) j (get_or (xs ++ x ∷ []) i x)) (sym z) ∙ swapped xs i x (omega arith)
