-- The blobs in front, one by one.
use Rattle.std.proofs.Common.{◌≡◌, ℕ, zero, suc, ◌+◌, ◌-◌, List, [], ◌∷◌, length, drop, min, refl, ap, ◌∙◌, arith}
use native.Mathlib.Numerals.{unary_clauses}
use Rattle.mse_calls.specs.Blobs.{forgotten_before, behind_forgotten}

none-before : (n : ℕ) (blobs : List (List ℕ)) → behind_forgotten (min n (length blobs)) (drop n blobs) ≡ forgotten_before n blobs
none-before zero [] = refl
none-before zero (blob ∷ blobs) = simp unary_clauses refl
none-before (suc n) [] = simp unary_clauses refl
none-before (suc n) (blob ∷ blobs) = simp unary_clauses (ap (λ v. [] ∷ v) (none-before n blobs))

one-more : (f m : ℕ) (blobs : List (List ℕ)) → behind_forgotten (suc f + m) blobs ≡ [] ∷ behind_forgotten (f + m) blobs
one-more f m blobs = let sum : suc f + m ≡ suc (f + m) = omega arith in ap (λ k. behind_forgotten k blobs) sum

-- f blobs were forgotten before, and of these as many more as are wanted
pub more-forgotten : (n f more : ℕ) (blobs : List (List ℕ)) → more ≡ n - f → behind_forgotten (f + min more (length blobs)) (drop more blobs) ≡ forgotten_before n (behind_forgotten f blobs)
more-forgotten n zero more blobs e =
    let all : more ≡ n = omega (arith, e) in
    let none : 0 + min n (length blobs) ≡ min n (length blobs) = omega arith in
    ap (λ k. behind_forgotten (0 + min k (length blobs)) (drop k blobs)) all
    ∙ ap (λ m. behind_forgotten m (drop n blobs)) none
    ∙ none-before n blobs
more-forgotten zero (suc f) more blobs e =
    one-more f (min more (length blobs)) (drop more blobs)
    ∙ ap (λ v. [] ∷ v) (more-forgotten zero f more blobs (omega (arith, e)))
more-forgotten (suc n) (suc f) more blobs e =
    one-more f (min more (length blobs)) (drop more blobs)
    ∙ ap (λ v. [] ∷ v) (more-forgotten n f more blobs (omega (arith, e)))
