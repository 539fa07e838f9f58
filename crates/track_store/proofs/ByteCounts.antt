-- The bytes of all tracks, counted track by track.
use Rattle.std.proofs.Common.{◌≡◌, ℕ, ◌+◌, ◌<◌, List, length, take, slice_get, sum_by, ap, inl, inr, arith}
use Rattle.std.specs.Option.{IfSome}
use Rattle.std.proofs.lemmas.Option.{slice_get_cases}
use Rattle.std.proofs.lemmas.List.Sums.{sum_by_more}

-- one more element was added up
pub added_more : {X : Type 0} (f : X → ℕ) (xs : List X) (i n m : ℕ) → i < length xs → n ≡ sum_by f (take i xs) → IfSome (slice_get xs i) (λ x. m ≡ f x) → n + m ≡ sum_by f (take (i + 1) xs)
added_more f xs i n m here so_far h =
    elim (slice_get_cases xs i).1 [
      | inl found ↦ (let step = rw found.2 at h in let more = sum_by_more f xs i found.0 here in let same = ap f found.3 in omega arith)
      | inr past ↦ absurd (omega arith)
    ]
