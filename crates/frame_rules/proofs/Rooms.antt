-- The room in the stores, and the gaps across which their ranges join.
use Rattle.std.proofs.Common.{◌≡◌, ◌≢◌, ◌∙◌, ℕ, zero, suc, ℤ, ◌+◌, ◌≤◌, List, [], ◌∷◌, length, map, set, slice_get, Option, Some, None, refl, sym, ap, arith}
use Rattle.std.specs.Option.{IfSome, option_map}
use Rattle.std.proofs.lemmas.Option.{slice_get-map}
use Rattle.std.proofs.lemmas.List.{length-map}
use Rattle.track_store.specs.declared.tracks.Track.{Track}
use Rattle.frame_rules.specs.declared.timing.Timing.{Timing}
use Rattle.track_store.specs.Kept.{HasSpareRoom, gaps_of}
use Rattle.frame_rules.specs.Place.{with_reset_marks, IsRoomTakenAt}
use Rattle.frame_rules.specs.Placing.{AreStoresKept}

-- ---- room

-- where it is one and the same track
same_room : {S : Type 0} (spare : S → ℕ) (own : Type 0) (o : Option (Track S)) → IfSome o (λ t. IfSome o (λ u. (spare t.store ≤ spare u.store + 1) × (own → spare t.store ≤ spare u.store)))
same_room spare own None = tt
same_room spare own (Some t) = (omega arith, λ _. omega arith)

takes_nothing : {S : Type 0} (spare : S → ℕ) (i : ℕ) (ts : List (Track S)) → IsRoomTakenAt spare i ts ts
takes_nothing spare i ts k = same_room spare (k ≢ i) (slice_get ts k)

-- the same of other places
if_other : {S : Type 0} (spare : S → ℕ) (own other : Type 0) (o p : Option (Track S)) → (other → own) → IfSome o (λ t. IfSome p (λ u. (spare t.store ≤ spare u.store + 1) × (own → spare t.store ≤ spare u.store))) → IfSome o (λ t. IfSome p (λ u. (spare t.store ≤ spare u.store + 1) × (other → spare t.store ≤ spare u.store)))
if_other spare own other None p f h = tt
if_other spare own other (Some t) None f h = tt
if_other spare own other (Some t) (Some u) f h = (h.0, λ e. h.1 (f e))

not_next : (k i : ℕ) → suc k ≢ suc i → k ≢ i
not_next k i h e = h (ap suc e)

takes_set : {S : Type 0} (spare : S → ℕ) (ts : List (Track S)) (i : ℕ) (t u : Track S) → slice_get ts i ≡ Some t → spare t.store ≤ spare u.store + 1 → IsRoomTakenAt spare i ts (set ts i u)
takes_set spare [] i t u e h k = absurd cc
takes_set spare (v ∷ ts) zero t u e h zero =
    let same : v ≡ t = cc in
    let room = ap (λ (x : Track _). spare x.store) same in
    (omega arith, λ other. absurd (other refl))
takes_set spare (v ∷ ts) zero t u e h (suc k) = same_room spare (suc k ≢ zero) (slice_get ts k)
takes_set spare (v ∷ ts) (suc i) t u e h zero = (omega arith, λ _. omega arith)
takes_set spare (v ∷ ts) (suc i) t u e h (suc k) = if_other spare (k ≢ i) (suc k ≢ suc i) (slice_get ts k) (slice_get (set ts i u) k) (not_next k i) (takes_set spare ts i t u e h k)

if_reset : {S : Type 0} (w : Timing) (P : S → Type 0) (o : Option (Track S)) → IfSome (option_map (with_reset_marks w) o) (λ t. P t.store) → IfSome o (λ t. P t.store)
if_reset w P None h = tt
if_reset w P (Some t) h = h

-- the marks are no part of it
takes_reset : {S : Type 0} (spare : S → ℕ) (i : ℕ) (w : Timing) (ts us : List (Track S)) → IsRoomTakenAt spare i (map (with_reset_marks w) ts) us → IsRoomTakenAt spare i ts us
takes_reset spare i w ts us h k = if_reset w (λ s. IfSome (slice_get us k) (λ u. (spare s ≤ spare u.store + 1) × (k ≢ i → spare s ≤ spare u.store))) (slice_get ts k) (rw (slice_get-map (with_reset_marks w) ts k) at (h k))

-- what holds at each place, but for the room that one of them loses
room_pair : {S : Type 0} (spare : S → ℕ) (n : ℕ) (ts us : List (Track S)) → length us ≡ length ts → ((k : ℕ) → IfSome (slice_get ts k) (λ t. IfSome (slice_get us k) (λ u. spare t.store ≤ spare u.store + 1))) → HasSpareRoom spare (n + 1) ts → HasSpareRoom spare n us
room_pair spare n ts [] e h all = tt
room_pair spare n [] (u ∷ us) e h all = absurd (omega arith)
room_pair spare n (t ∷ ts) (u ∷ us) e h all = (let less = h zero in let room = all.0 in omega arith, room_pair spare n ts us (omega arith) (λ k. h (suc k)) all.1)

if_less : {S : Type 0} (spare : S → ℕ) (own : Type 0) (o p : Option (Track S)) → IfSome o (λ t. IfSome p (λ u. (spare t.store ≤ spare u.store + 1) × (own → spare t.store ≤ spare u.store))) → IfSome o (λ t. IfSome p (λ u. spare t.store ≤ spare u.store + 1))
if_less spare own None p h = tt
if_less spare own (Some t) None h = tt
if_less spare own (Some t) (Some u) h = h.0

-- each store has room for one frame less at most
room_left : {S : Type 0} (spare : S → ℕ) (i n : ℕ) (ts us : List (Track S)) → length us ≡ length ts → IsRoomTakenAt spare i ts us → HasSpareRoom spare (n + 1) ts → HasSpareRoom spare n us
room_left spare i n ts us e h all = room_pair spare n ts us e (λ k. if_less spare (k ≢ i) (slice_get ts k) (slice_get us k) (h k)) all

-- as many gaps, as many tracks
same_length : {S : Type 0} (gap : S → ℤ) (ts us : List (Track S)) → gaps_of gap us ≡ gaps_of gap ts → length us ≡ length ts
same_length gap ts us e = sym (length-map us (λ t. gap t.store)) ∙ ap length e ∙ length-map ts (λ t. gap t.store)

-- ---- gaps

gaps_reset : {S : Type 0} (gap : S → ℤ) (w : Timing) (ts : List (Track S)) → gaps_of gap (map (with_reset_marks w) ts) ≡ gaps_of gap ts
gaps_reset gap w [] = refl
gaps_reset gap w (t ∷ ts) = ap (λ rest. gap t.store ∷ rest) (gaps_reset gap w ts)

gaps_set : {S : Type 0} (gap : S → ℤ) (ts : List (Track S)) (i : ℕ) (t u : Track S) → slice_get ts i ≡ Some t → gap u.store ≡ gap t.store → gaps_of gap (set ts i u) ≡ gaps_of gap ts
gaps_set gap [] i t u e h = refl
gaps_set gap (v ∷ ts) zero t u e h = let same : v ≡ t = cc in ap (λ z. z ∷ gaps_of gap ts) (h ∙ ap (λ (x : Track _). gap x.store) (sym same))
gaps_set gap (v ∷ ts) (suc i) t u e h = ap (λ rest. gap v.store ∷ rest) (gaps_set gap ts i t u e h)

-- ---- stores

stores_kept : {S : Type 0} (spare : S → ℕ) (gap : S → ℤ) (i : ℕ) (ts us : List (Track S)) → IsRoomTakenAt spare i ts us → gaps_of gap us ≡ gaps_of gap ts → AreStoresKept spare gap i ts us
stores_kept spare gap i ts us taken gaps =
    let same = same_length gap ts us gaps in
    record { spare_there = taken; room = λ n all. room_left spare i n ts us same taken all; gaps = gaps; len = same }

pub stores_same : {S : Type 0} (spare : S → ℕ) (gap : S → ℤ) (i : ℕ) (ts : List (Track S)) → AreStoresKept spare gap i ts ts
stores_same spare gap i ts = stores_kept spare gap i ts ts (takes_nothing spare i ts) refl

pub stores_set : {S : Type 0} (spare : S → ℕ) (gap : S → ℤ) (i : ℕ) (ts : List (Track S)) (t u : Track S) → slice_get ts i ≡ Some t → spare t.store ≤ spare u.store + 1 → gap u.store ≡ gap t.store → AreStoresKept spare gap i ts (set ts i u)
stores_set spare gap i ts t u there room same = stores_kept spare gap i ts (set ts i u) (takes_set spare ts i t u there room) (gaps_set gap ts i t u there same)

pub stores_reset : {S : Type 0} (spare : S → ℕ) (gap : S → ℤ) (i : ℕ) (w : Timing) (ts reset us : List (Track S)) → reset ≡ map (with_reset_marks w) ts → AreStoresKept spare gap i reset us → AreStoresKept spare gap i ts us
stores_reset spare gap i w ts reset us is h = stores_kept spare gap i ts us (takes_reset spare i w ts us (rw is at h.spare_there)) (h.gaps ∙ ap (gaps_of gap) is ∙ gaps_reset gap w ts)
