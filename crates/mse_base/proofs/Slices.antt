-- Parts of a part of a list.
use Rattle.std.proofs.Common.{arith, ◌≡◌, ◌∙◌, ℕ, zero, suc, ◌+◌, ◌-◌, ◌≤◌, List, [], ◌∷◌, ◌++◌, take, drop, slice_range, sym, ap}
use Rattle.std.proofs.lemmas.List.{drop-take, drop-drop, take-take, take_all}

-- what stays of it behind the first n
pub part_without_front : {X : Type 0} (n a b : ℕ) (xs : List X) → a + n ≤ b → drop n (slice_range xs a b) ≡ slice_range xs (a + n) b
part_without_front n a b xs le = ap (λ k. drop n (take k (drop a xs))) (omega (arith, le)) ∙ drop-take n (b - (a + n)) (drop a xs) ∙ ap (take (b - (a + n))) (drop-drop n a xs)

-- the first n of it
pub part_cut : {X : Type 0} (n a b : ℕ) (xs : List X) → a + n ≤ b → take n (slice_range xs a b) ≡ slice_range xs a (a + n)
part_cut n a b xs le = take-take n (b - a) (drop a xs) (omega (arith, le)) ∙ ap (λ k. take k (drop a xs)) (omega (arith))

-- a part of it
pub part_of_part : {X : Type 0} (s e a b : ℕ) (xs : List X) → s ≤ e → a + e ≤ b → slice_range (slice_range xs a b) s e ≡ slice_range xs (a + s) (a + e)
part_of_part s e a b xs se le = ap (take (e - s)) (part_without_front s a b xs (omega (arith, se, le))) ∙ part_cut (e - s) (a + s) b xs (omega (arith, se, le)) ∙ ap (slice_range xs (a + s)) (omega (arith, se))

-- the first m and the n behind them
take_further : {X : Type 0} (m n : ℕ) (xs : List X) → take (m + n) xs ≡ take m xs ++ take n (drop m xs)
take_further zero n xs = let none : 0 + n ≡ n = omega arith in ap (λ k. take k xs) none
take_further (suc m) n [] = take_all (suc m + n) [] (omega arith) ∙ sym (take_all n [] (omega arith))
take_further (suc m) n (x ∷ xs) = let one : suc m + n ≡ suc (m + n) = omega arith in ap (λ k. take k (x ∷ xs)) one ∙ ap (λ ys. x ∷ ys) (take_further m n xs)

-- a part with the n behind it
pub part_longer : {X : Type 0} (n a b : ℕ) (xs : List X) → a ≤ b → slice_range xs a (b + n) ≡ slice_range xs a b ++ take n (drop b xs)
part_longer n a b xs le =
    let long : b + n - a ≡ (b - a) + n = omega (arith, le) in
    let end : a + (b - a) ≡ b = omega (arith, le) in
    ap (λ k. take k (drop a xs)) long ∙ take_further (b - a) n (drop a xs) ∙ ap (λ ys. take (b - a) (drop a xs) ++ take n ys) (drop-drop (b - a) a xs ∙ ap (λ k. drop k xs) end)
