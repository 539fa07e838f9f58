-- The last place of a list whose element passes a test.
use Rattle.std.proofs.Common.{◌≡◌, ◌∙◌, ℕ, suc, ◌+◌, ◌-◌, ◌<◌, ◌≤◌, Bool, true, false, cond, List, [], ◌∷◌, ◌++◌, Option, Some, None, length, take, get_or, refl, sym, ap, arith}
use Rattle.std.proofs.lemmas.List.{take_more, length-take-le}
use Rattle.track_store.specs.declared.store.Stored.{Stored}
use Rattle.track_store.specs.Frames.{last_place, last_place_after}

last_of_one : (b : Bool) → last_place_after b None ≡ cond b (Some 0) None
last_of_one true = refl
last_of_one false = refl

last_step : (a b : Bool) (n : ℕ) (o : Option ℕ) → last_place_after a (cond b (Some n) o) ≡ cond b (Some (suc n)) (last_place_after a o)
last_step a true n o = let next : n + 1 ≡ suc n = omega arith in ap Some next
last_step a false n o = refl

pub last_place_push : {X : Type 0} (p : X → Bool) (xs : List X) (x : X) → last_place p (xs ++ x ∷ []) ≡ cond (p x) (Some (length xs)) (last_place p xs)
last_place_push p [] x = last_of_one (p x)
last_place_push p (y ∷ xs) x = ap (last_place_after (p y)) (last_place_push p xs x) ∙ last_step (p y) (p x) (length xs) (last_place p xs)

-- the last place among one more
pub last_place_more : {X : Type 0} (p : X → Bool) (xs : List X) (i : ℕ) (d : X) → i < length xs → last_place p (take (i + 1) xs) ≡ cond (p (get_or xs i d)) (Some i) (last_place p (take i xs))
last_place_more p xs i d low =
    ap (last_place p) (take_more xs i d low) ∙ last_place_push p (take i xs) (get_or xs i d)
    ∙ ap (λ n. cond (p (get_or xs i d)) (Some n) (last_place p (take i xs))) (length-take-le i xs (omega arith))

-- one place back
pub last_place_back : (p : Stored → Bool) (xs : List Stored) (k : ℕ) (x : Stored) (b : Bool) → 0 < k → k ≤ length xs → p (get_or xs (k - 1) x) ≡ b → last_place p (take k xs) ≡ cond b (Some (k - 1)) (last_place p (take (k - 1) xs))
last_place_back p xs k x b some low is =
    let before : k - 1 + 1 ≡ k = omega arith in
    ap (λ n. last_place p (take n xs)) (sym before)
    ∙ last_place_more p xs (k - 1) x (omega arith)
    ∙ ap (λ c. cond c (Some (k - 1)) (last_place p (take (k - 1) xs))) is
