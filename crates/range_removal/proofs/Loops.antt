-- Steps of a loop over a list of tracks.
use Rattle.std.proofs.Common.{◌≡◌, ℕ, ◌+◌, ◌<◌, ◌≤◌, refl, List, [], ◌∷◌, ◌++◌, zero, suc, length, map, take, drop, set, slice_get, Some, sym, ap, ◌∙◌, subst, inl, inr, arith}
use Rattle.std.specs.Option.{IfSome}
use Rattle.std.specs.List.{AllByRecursion}
use Rattle.std.proofs.lemmas.Option.{slice_get_cases}
use Rattle.std.proofs.lemmas.List.{length-append, length-map, length-take, length-drop}
use Rattle.std.proofs.lemmas.List.Edits.{map_over_more}

-- f was written over one more element
pub written_more : {X : Type 0} (f : X → X) (xs ys zs : List X) (i : ℕ) → i < length xs → ys ≡ map f (take i xs) ++ drop i xs → IfSome (slice_get ys i) (λ x. zs ≡ set ys i (f x)) → zs ≡ map f (take (i + 1) xs) ++ drop (i + 1) xs
written_more f xs ys zs i low so_far h =
    let as_long = simp (length-append, length-map, length-take, length-drop) at (ap length so_far) in
    let here : i < length ys = omega arith in
    elim (slice_get_cases ys i).1 [
      | inl found ↦ (let step = rw found.2 at h in step ∙ map_over_more f xs ys i found.0 low so_far (sym found.3))
      | inr past ↦ absurd (omega arith)
    ]

-- what holds of all holds of the one at a place
pub all_at : {X : Type 0} (P : X → Type 0) (xs : List X) (i : ℕ) (x : X) → AllByRecursion P xs → slice_get xs i ≡ Some x → P x
all_at P [] i x h e = absurd cc
all_at P (y ∷ xs) zero x h e = let same : y ≡ x = cc in subst P same h.0
all_at P (y ∷ xs) (suc i) x h e = all_at P xs i x h.1 e

pub all_set : {X : Type 0} (P : X → Type 0) (xs : List X) (i : ℕ) (x : X) → AllByRecursion P xs → P x → AllByRecursion P (set xs i x)
all_set P [] i x h p = h
all_set P (y ∷ xs) zero x h p = (p, h.1)
all_set P (y ∷ xs) (suc i) x h p = (h.0, all_set P xs i x h.1 p)

-- f was written over all elements
written_all : {X : Type 0} (f : X → X) (xs : List X) (i : ℕ) → length xs ≤ i → map f (take i xs) ++ drop i xs ≡ map f xs
written_all f [] zero h = refl
written_all f [] (suc i) h = refl
written_all f (x ∷ xs) zero h = absurd (omega arith)
written_all f (x ∷ xs) (suc i) h = ap (λ ys. f x ∷ ys) (written_all f xs i (omega arith))

pub all_written : {X : Type 0} (f : X → X) (xs ys : List X) (i : ℕ) → length xs ≤ i → ys ≡ map f (take i xs) ++ drop i xs → ys ≡ map f xs
all_written f xs ys i h e = e ∙ written_all f xs i h
