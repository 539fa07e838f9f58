-- What tests add to a store.
use Rattle.std.proofs.Common.{◌≡◌, ◌⊎◌, ℕ, ◌+◌, ◌*◌, ◌<◌, ◌≤◌, List, [], ◌∷◌, ◌++◌, length, inl, inr, arith, subst, refl, sym}
use Rattle.std.specs.List.{AllByRecursion}
use Rattle.std.proofs.lemmas.List.Sums.{sum_by_push}
use Rattle.track_store.specs.declared.store.Stored.{Stored}
use Rattle.track_store.specs.Frames.{IsAscending, bytes_of}
use Rattle.track_store.specs.Sound.{HasPredecessor}
use Rattle.track_store.proofs.ClearedLists.{each-push, ascending_push}

-- n frames of four bytes with the serials from 0 on
pub record IsFixture (n : ℕ) (fs : List Stored) : Type 0 where
  pub ascending : IsAscending fs
  pub below : AllByRecursion (λ f. f.serial < n) fs
  pub follows : (n ≡ 0) ⊎ HasPredecessor n fs
  pub used : bytes_of fs ≤ 4 * n

pub fixture_none : IsFixture 0 []
fixture_none = record { ascending = tt; below = tt; follows = inl refl; used = omega arith }

lower : (n : ℕ) (fs : List Stored) → AllByRecursion (λ f. f.serial < n) fs → AllByRecursion (λ f. f.serial < n + 1) fs
lower n [] h = h
lower n (f ∷ fs) h = (let low = h.0 in omega arith, lower n fs h.1)

predecessor_push : (n : ℕ) (fs : List Stored) (x : Stored) → x.serial + 1 ≡ n → HasPredecessor n (fs ++ x ∷ [])
predecessor_push n [] x e = inl e
predecessor_push n (f ∷ fs) x e = inr (predecessor_push n fs x e)

pub fixture_push : (n : ℕ) (fs : List Stored) (x : Stored) → IsFixture n fs → x.serial ≡ n → length x.frame.payload ≡ 4 → IsFixture (n + 1) (fs ++ x ∷ [])
fixture_push n fs x h e four =
    let under = subst (λ k. AllByRecursion (λ f. f.serial < k) fs) (sym e) h.below in
    let one : x.serial < n + 1 = omega arith in
    let more = sum_by_push (λ (f : Stored). length f.frame.payload) fs x in
    let less = h.used in
    record {
      ascending = ascending_push fs x h.ascending under;
      below = each-push (λ f. f.serial < n + 1) fs x (lower n fs h.below) one;
      follows = inr (predecessor_push (n + 1) fs x (omega arith));
      used = omega arith;
    }
