-- The frame before another.
use Rattle.std.proofs.Common.{◌≡◌, ℕ, zero, suc, ◌+◌, ap, List, [], ◌∷◌, Some, slice_get, inl, inr, ◌∙◌}
use Rattle.track_store.specs.declared.store.Stored.{Stored}
use Rattle.track_store.specs.Sound.{HasPredecessor}

pub has_before : (n : ℕ) (fs : List Stored) (i : ℕ) (x : Stored) → Some x ≡ slice_get fs i → x.serial + 1 ≡ n → HasPredecessor n fs
has_before n [] i x e s = absurd cc
has_before n (f ∷ fs) zero x e s = let same : f ≡ x = cc in inl (ap (λ (z : Stored). z.serial + 1) same ∙ s)
has_before n (f ∷ fs) (suc i) x e s = inr (has_before n fs i x e s)
