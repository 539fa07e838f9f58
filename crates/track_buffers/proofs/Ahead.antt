-- The room that is known, and what a coded frame takes of it.
use Rattle.std.proofs.Common.{◌≡◌, ◌≢◌, ◌∙◌, ℕ, zero, suc, ◌+◌, ◌-◌, ◌≤◌, Bool, true, false, cond, List, [], ◌∷◌, length, slice_get, Option, Some, None, refl, sym, subst, arith, min}
use Rattle.std.specs.Prelude.{◌==◌}
use Rattle.std.specs.Option.{IfSome}
use Rattle.std.proofs.lemmas.Bool.Decides.{Decides-eqb}
use Rattle.track_store.specs.declared.tracks.Track.{Track}
use Rattle.track_store.specs.Kept.{HasSpareRoom}
use Rattle.range_removal.specs.Rooms.{IsRoomKept}
use Rattle.range_removal.proofs.Rooms.{none_in_both}
use Rattle.frame_rules.specs.Place.{IsRoomTakenAt}
use Rattle.track_buffers.specs.declared.rooms.Ahead.{Ahead}
use Rattle.track_buffers.specs.Ahead.{HasRoomAhead, ahead_after_frame}

-- ---- nothing is known

none_at : {S : Type 0} (spare : S → ℕ) (o : Option (Track S)) (b : Bool) → IfSome o (λ t. cond b 0 0 ≤ spare t.store)
none_at spare None b = tt
none_at spare (Some t) true = omega arith
none_at spare (Some t) false = omega arith

pub ahead_none : {S : Type 0} (spare : S → ℕ) (ts : List (Track S)) → (k : ℕ) → IfSome (slice_get ts k) (λ t. cond (k == 0) 0 0 ≤ spare t.store)
ahead_none spare ts k = none_at spare (slice_get ts k) (k == 0)

-- ---- the least of it

each_room : {S : Type 0} (spare : S → ℕ) (n : ℕ) (ts : List (Track S)) → ((k : ℕ) → IfSome (slice_get ts k) (λ t. n ≤ spare t.store)) → HasSpareRoom spare n ts
each_room spare n [] h = tt
each_room spare n (t ∷ ts) h = (h zero, each_room spare n ts (λ k. h (suc k)))

least_at : {S : Type 0} (spare : S → ℕ) (n own others : ℕ) (b : Bool) (o : Option (Track S)) → n ≤ own → n ≤ others → IfSome o (λ t. cond b own others ≤ spare t.store) → IfSome o (λ t. n ≤ spare t.store)
least_at spare n own others b None h k room = tt
least_at spare n own others true (Some t) h k room = omega arith
least_at spare n own others false (Some t) h k room = omega arith

pub ahead_least : {S : Type 0} (spare : S → ℕ) (n : ℕ) (a : Ahead) (ts : List (Track S)) → n ≤ a.own → n ≤ a.others → HasRoomAhead spare a ts → HasSpareRoom spare n ts
ahead_least spare n a ts h k room = each_room spare n ts (λ i. least_at spare n a.own a.others (i == a.place) (slice_get ts i) h k (room i))

-- ---- each store has as much

room_at : {S : Type 0} (spare : S → ℕ) (n : ℕ) (ts : List (Track S)) (k : ℕ) → HasSpareRoom spare n ts → IfSome (slice_get ts k) (λ t. n ≤ spare t.store)
room_at spare n [] k h = tt
room_at spare n (t ∷ ts) zero h = h.0
room_at spare n (t ∷ ts) (suc k) h = room_at spare n ts k h.1

same_at : {S : Type 0} (spare : S → ℕ) (n : ℕ) (b : Bool) (o : Option (Track S)) → IfSome o (λ t. n ≤ spare t.store) → IfSome o (λ t. cond b n n ≤ spare t.store)
same_at spare n b None h = tt
same_at spare n true (Some t) h = h
same_at spare n false (Some t) h = h

pub ahead_each : {S : Type 0} (spare : S → ℕ) (n i : ℕ) (ts : List (Track S)) → HasSpareRoom spare n ts → HasRoomAhead spare (record { place = i; own = n; others = n }) ts
ahead_each spare n i ts h k = same_at spare n (k == i) (slice_get ts k) (room_at spare n ts k h)

-- ---- a step that keeps the room of each store

kept_at : {S : Type 0} (spare : S → ℕ) (n : ℕ) (o p : Option (Track S)) → (o ≡ None → p ≡ None) → IfSome o (λ t. n ≤ spare t.store) → IfSome o (λ t. IfSome p (λ u. spare t.store ≤ spare u.store)) → IfSome p (λ u. n ≤ spare u.store)
kept_at spare n o None none h k = tt
kept_at spare n None (Some u) none h k = absurd (let no : Some u ≡ None = none refl in cc)
kept_at spare n (Some t) (Some u) none h k = omega arith

pub ahead_kept : {S : Type 0} (spare : S → ℕ) (a : Ahead) (ts us : List (Track S)) → length us ≡ length ts → IsRoomKept spare ts us → HasRoomAhead spare a ts → HasRoomAhead spare a us
ahead_kept spare a ts us long keep h k = kept_at spare (cond (k == a.place) a.own a.others) (slice_get ts k) (slice_get us k) (none_in_both ts us k long) (h k) (keep k)

-- more room in one store

own_at : {S : Type 0} (spare : S → ℕ) (place own old others k : ℕ) (us : List (Track S)) (b : Bool) → (k == place) ≡ b → IfSome (slice_get us place) (λ u. own ≤ spare u.store) → IfSome (slice_get us k) (λ u. cond b old others ≤ spare u.store) → IfSome (slice_get us k) (λ u. cond b own others ≤ spare u.store)
own_at spare place own old others k us true e here h =
    let same : place ≡ k = sym ((Decides-eqb k place).0 e) in
    subst (λ (i : ℕ). IfSome (slice_get us i) (λ u. own ≤ spare u.store)) same here
own_at spare place own old others k us false e here h = h

pub ahead_own : {S : Type 0} (spare : S → ℕ) (a : Ahead) (own : ℕ) (ts us : List (Track S)) → length us ≡ length ts → IsRoomKept spare ts us → HasRoomAhead spare a ts → IfSome (slice_get us a.place) (λ u. own ≤ spare u.store) → HasRoomAhead spare (record { place = a.place; own = own; others = a.others }) us
ahead_own spare a own ts us long keep h here k = own_at spare a.place own a.own a.others k us (k == a.place) refl here (ahead_kept spare a ts us long keep h k)

-- ---- a frame of the track at a place

abbrev IsTaken : {S : Type 0} → (S → ℕ) → Type 0 → Track S → Track S → Type 0
IsTaken spare other t u = (spare t.store ≤ spare u.store + 1) × (other → spare t.store ≤ spare u.store)

less_at : {S : Type 0} (spare : S → ℕ) (n : ℕ) (other : Type 0) (o p : Option (Track S)) → (o ≡ None → p ≡ None) → IfSome o (λ t. n ≤ spare t.store) → IfSome o (λ t. IfSome p (λ u. IsTaken spare other t u)) → IfSome p (λ u. n - 1 ≤ spare u.store)
less_at spare n other o None none h k = tt
less_at spare n other None (Some u) none h k = absurd (let no : Some u ≡ None = none refl in cc)
less_at spare n other (Some t) (Some u) none h k = let fewer = k.0 in omega arith

other_at : {S : Type 0} (spare : S → ℕ) (m n : ℕ) (other : Type 0) (o p : Option (Track S)) → m ≤ n → other → (o ≡ None → p ≡ None) → IfSome o (λ t. n ≤ spare t.store) → IfSome o (λ t. IfSome p (λ u. IsTaken spare other t u)) → IfSome p (λ u. m ≤ spare u.store)
other_at spare m n other o None less is none h k = tt
other_at spare m n other None (Some u) less is none h k = absurd (let no : Some u ≡ None = none refl in cc)
other_at spare m n other (Some t) (Some u) less is none h k = let same = k.1 is in omega arith

differs : (k i : ℕ) → (k == i) ≡ false → k ≢ i
differs k i e same = absurd (let yes : (k == i) ≡ true = (Decides-eqb k i).1 same in cc)

-- the room known of the store at place k, where b tells whether that is the place
abbrev HasKnownRoom : {S : Type 0} → (S → ℕ) → Ahead → List (Track S) → ℕ → Bool → Type 0
HasKnownRoom spare a ts k b = IfSome (slice_get ts k) (λ t. cond b a.own a.others ≤ spare t.store)

-- after a frame of the track at the place
abbrev less_own : ℕ → Ahead → Ahead
less_own i a = record { place = i; own = a.own - 1; others = a.others }

-- after one of the track at another place
abbrev less_other : ℕ → Ahead → Ahead
less_other i a = record { place = i; own = a.others - 1; others = min a.others a.own }

same_place : {S : Type 0} (spare : S → ℕ) (a : Ahead) (i k : ℕ) (ts us : List (Track S)) (b : Bool) → (k == i) ≡ b → length us ≡ length ts → IsRoomTakenAt spare i ts us → HasKnownRoom spare a ts k b → HasKnownRoom spare (less_own i a) us k b
same_place spare a i k ts us true e long taken h = less_at spare a.own (k ≢ i) (slice_get ts k) (slice_get us k) (none_in_both ts us k long) h (taken k)
same_place spare a i k ts us false e long taken h = other_at spare a.others a.others (k ≢ i) (slice_get ts k) (slice_get us k) (omega arith) (differs k i e) (none_in_both ts us k long) h (taken k)

other_place : {S : Type 0} (spare : S → ℕ) (a : Ahead) (i k : ℕ) (ts us : List (Track S)) (b c : Bool) → (i == a.place) ≡ false → (k == i) ≡ b → (k == a.place) ≡ c → length us ≡ length ts → IsRoomTakenAt spare i ts us → HasKnownRoom spare a ts k c → HasKnownRoom spare (less_other i a) us k b
other_place spare a i k ts us true true apart e f long taken h =
    absurd (let same : i ≡ a.place = sym ((Decides-eqb k i).0 e) ∙ (Decides-eqb k a.place).0 f in differs i a.place apart same)
other_place spare a i k ts us true false apart e f long taken h = less_at spare a.others (k ≢ i) (slice_get ts k) (slice_get us k) (none_in_both ts us k long) h (taken k)
other_place spare a i k ts us false true apart e f long taken h = other_at spare (min a.others a.own) a.own (k ≢ i) (slice_get ts k) (slice_get us k) (omega arith) (differs k i e) (none_in_both ts us k long) h (taken k)
other_place spare a i k ts us false false apart e f long taken h = other_at spare (min a.others a.own) a.others (k ≢ i) (slice_get ts k) (slice_get us k) (omega arith) (differs k i e) (none_in_both ts us k long) h (taken k)

after_by : {S : Type 0} (spare : S → ℕ) (a : Ahead) (i : ℕ) (ts us : List (Track S)) (b : Bool) → (i == a.place) ≡ b → length us ≡ length ts → IsRoomTakenAt spare i ts us → HasRoomAhead spare a ts → HasRoomAhead spare (cond b (less_own i a) (less_other i a)) us
after_by spare a i ts us true e long taken h k =
    let same : a.place ≡ i = sym ((Decides-eqb i a.place).0 e) in
    same_place spare a i k ts us (k == i) refl long taken (subst (λ (p : ℕ). HasKnownRoom spare a ts k (k == p)) same (h k))
after_by spare a i ts us false e long taken h k = other_place spare a i k ts us (k == i) (k == a.place) e refl refl long taken (h k)

pub ahead_after : {S : Type 0} (spare : S → ℕ) (a : Ahead) (i : ℕ) (ts us : List (Track S)) → length us ≡ length ts → IsRoomTakenAt spare i ts us → HasRoomAhead spare a ts → HasRoomAhead spare (ahead_after_frame i a) us
ahead_after spare a i ts us long taken h = after_by spare a i ts us (i == a.place) refl long taken h
