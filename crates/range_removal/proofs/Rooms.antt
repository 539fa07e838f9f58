-- The room in the stores, and the gaps across which their ranges join.
use Rattle.std.proofs.Common.{◌≡◌, ◌∙◌, ℕ, zero, suc, ℤ, ◌≤◌, List, [], ◌∷◌, length, set, slice_get, Option, Some, None, refl, sym, ap, arith}
use Rattle.std.specs.Option.{IfSome}
use Rattle.std.proofs.lemmas.List.{length-map}
use Rattle.track_store.specs.declared.tracks.Track.{Track}
use Rattle.track_store.specs.Kept.{HasSpareRoom, gaps_of}
use Rattle.range_removal.specs.Rooms.{IsRoomKept}

same_room : {S : Type 0} (spare : S → ℕ) (o : Option (Track S)) → IfSome o (λ t. IfSome o (λ u. spare t.store ≤ spare u.store))
same_room spare None = tt
same_room spare (Some t) = omega arith

pub keeps_same : {S : Type 0} (spare : S → ℕ) (ts : List (Track S)) → IsRoomKept spare ts ts
keeps_same spare ts k = same_room spare (slice_get ts k)

pub keeps_set : {S : Type 0} (spare : S → ℕ) (ts : List (Track S)) (i : ℕ) (t u : Track S) → slice_get ts i ≡ Some t → spare t.store ≤ spare u.store → IsRoomKept spare ts (set ts i u)
keeps_set spare [] i t u e h k = absurd cc
keeps_set spare (v ∷ ts) zero t u e h zero = let same : v ≡ t = cc in let room = ap (λ (x : Track _). spare x.store) same in omega arith
keeps_set spare (v ∷ ts) zero t u e h (suc k) = same_room spare (slice_get ts k)
keeps_set spare (v ∷ ts) (suc i) t u e h zero = omega arith
keeps_set spare (v ∷ ts) (suc i) t u e h (suc k) = keeps_set spare ts i t u e h k

more_here : {S : Type 0} (spare : S → ℕ) (n : ℕ) (t u : Track S) → spare t.store ≤ spare u.store → n ≤ spare t.store → n ≤ spare u.store
more_here spare n t u h room = omega arith

pub room_kept : {S : Type 0} (spare : S → ℕ) (n : ℕ) (ts us : List (Track S)) → length us ≡ length ts → IsRoomKept spare ts us → HasSpareRoom spare n ts → HasSpareRoom spare n us
room_kept spare n ts [] e h all = tt
room_kept spare n [] (u ∷ us) e h all = absurd (omega arith)
room_kept spare n (t ∷ ts) (u ∷ us) e h all = (more_here spare n t u (h zero) all.0, room_kept spare n ts us (omega arith) (λ k. h (suc k)) all.1)

through : {S : Type 0} (spare : S → ℕ) (o p q : Option (Track S)) → (p ≡ None → q ≡ None) → IfSome o (λ t. IfSome p (λ u. spare t.store ≤ spare u.store)) → IfSome p (λ t. IfSome q (λ u. spare t.store ≤ spare u.store)) → IfSome o (λ t. IfSome q (λ u. spare t.store ≤ spare u.store))
through spare None p q none h k = tt
through spare (Some t) None None none h k = tt
through spare (Some t) None (Some u) none h k = absurd (let no : Some u ≡ None = none refl in cc)
through spare (Some t) (Some v) None none h k = tt
through spare (Some t) (Some v) (Some u) none h k = omega arith

pub none_in_both : {X : Type 0} (xs ys : List X) (k : ℕ) → length ys ≡ length xs → slice_get xs k ≡ None → slice_get ys k ≡ None
none_in_both xs [] k e h = refl
none_in_both [] (y ∷ ys) k e h = absurd (omega arith)
none_in_both (x ∷ xs) (y ∷ ys) zero e h = absurd cc
none_in_both (x ∷ xs) (y ∷ ys) (suc k) e h = none_in_both xs ys k (omega arith) h

-- as many gaps, as many tracks
pub same_length : {S : Type 0} (gap : S → ℤ) (ts us : List (Track S)) → gaps_of gap us ≡ gaps_of gap ts → length us ≡ length ts
same_length gap ts us e = sym (length-map us (λ t. gap t.store)) ∙ ap length e ∙ length-map ts (λ t. gap t.store)

pub keeps_both : {S : Type 0} (spare : S → ℕ) (gap : S → ℤ) (ts us vs : List (Track S)) → gaps_of gap vs ≡ gaps_of gap us → IsRoomKept spare ts us → IsRoomKept spare us vs → IsRoomKept spare ts vs
keeps_both spare gap ts us vs e h g k = through spare (slice_get ts k) (slice_get us k) (slice_get vs k) (none_in_both us vs k (same_length gap us vs e)) (h k) (g k)

pub gaps_set : {S : Type 0} (gap : S → ℤ) (ts : List (Track S)) (i : ℕ) (t u : Track S) → slice_get ts i ≡ Some t → gap u.store ≡ gap t.store → gaps_of gap (set ts i u) ≡ gaps_of gap ts
gaps_set gap [] i t u e h = refl
gaps_set gap (v ∷ ts) zero t u e h = let same : v ≡ t = cc in ap (λ z. z ∷ gaps_of gap ts) (h ∙ ap (λ (x : Track _). gap x.store) (sym same))
gaps_set gap (v ∷ ts) (suc i) t u e h = ap (λ rest. gap v.store ∷ rest) (gaps_set gap ts i t u e h)
