-- The group of a frame, by the serials of random access points.
use Rattle.std.proofs.Common.{◌≡◌, ◌∙◌, ℕ, zero, suc, ◌+◌, ◌<◌, ◌≤◌, ◌⊎◌, inl, inr, Bool, true, false, cond, not, ◌||◌, List, [], ◌∷◌, length, get_or, take, Option, Some, None, is_some, refl, sym, ap, subst, arith, nat_eq, nat_lt}
use Rattle.std.specs.List.{AllByRecursion, list_any, position, position_or_len}
use Rattle.std.proofs.lemmas.Bool.Decides.{nat_tests}
use Rattle.track_store.specs.declared.store.Stored.{Stored}
use Rattle.track_store.specs.Frames.{IsAscending, has_serial, last_place, last_place_after, group_start_of}
use Rattle.track_store.specs.Sound.{IsChained, IsSuccessor, last_serial}
use Rattle.track_index.specs.Syncs.{is_among, IsLastUpTo, IsToldBy, AreSyncsOf}
use Rattle.track_index.proofs.SyncSerials.{among_each}
use Rattle.track_index.proofs.FrameLookUps.{pos_suc, position_at, position_none}

-- ---- whether a frame is held

any_step : (b : Bool) (n k : ℕ) (c : Bool) → nat_lt n k ≡ c → nat_lt (cond (not b) (1 + n) 0) (suc k) ≡ (b || c)
any_step true n k c e = grind (arith, nat_tests)
any_step false n k c e = let z : nat_lt (1 + n) (suc k) ≡ nat_lt n k = grind (arith, nat_tests) in z ∙ e

any_place : (p : Stored → Bool) (fs : List Stored) → nat_lt (position_or_len p fs) (length fs) ≡ list_any p fs
any_place p [] = refl
any_place p (f ∷ fs) = any_step (p f) (position_or_len p fs) (length fs) (list_any p fs) (any_place p fs)

some_cond : (b : Bool) (n : ℕ) → is_some (cond b (Some n) None) ≡ b
some_cond true n = refl
some_cond false n = refl

pub any_position : (p : Stored → Bool) (fs : List Stored) → is_some (position p fs) ≡ list_any p fs
any_position p fs = some_cond (nat_lt (position_or_len p fs) (length fs)) (position_or_len p fs) ∙ any_place p fs

-- ---- the place of a serial

pub record IsFirstMatch (p : Stored → Bool) (fs : List Stored) (i : ℕ) : Type 0 where
  pub place : position_or_len p fs ≡ i
  pub within : i < length fs

place_cond : (n k i : ℕ) (b : Bool) → nat_lt n k ≡ b → cond b (Some n) None ≡ Some i → (n ≡ i) × (n < k)
place_cond n k i true e h = (cc, grind (arith, nat_tests))
place_cond n k i false e h = absurd cc

place_of : (p : Stored → Bool) (fs : List Stored) (i : ℕ) → position p fs ≡ Some i → IsFirstMatch p fs i
place_of p fs i e =
    let both = place_cond (position_or_len p fs) (length fs) i (nat_lt (position_or_len p fs) (length fs)) refl e in
    let same = both.0 in
    let low = both.1 in
    record { place = both.0; within = omega arith }

position_more : (p : Stored → Bool) (f : Stored) (fs : List Stored) (i : ℕ) → p f ≡ false → position p fs ≡ Some i → position p (f ∷ fs) ≡ Some (i + 1)
position_more p f fs i e h =
    let k = place_of p fs i h in
    let low = k.within in
    let z : suc i ≡ i + 1 = omega arith in
    subst (λ n. position p (f ∷ fs) ≡ Some n) z (position_at p (f ∷ fs) (suc i) (pos_suc p f fs i e k.place) (omega arith))

position_here : (p : Stored → Bool) (f : Stored) (fs : List Stored) → p f ≡ true → position p (f ∷ fs) ≡ Some 0
position_here p f fs e = position_at p (f ∷ fs) 0 (ap (λ b. cond (not b) (1 + position_or_len p fs) 0) e) (omega arith)

not_own : (n m : ℕ) → n < m → nat_eq m n ≡ false
not_own n m l = grind (arith, nat_tests)

later_other : (n : ℕ) (fs : List Stored) → AllByRecursion (λ g. n < g.serial) fs → AllByRecursion (λ g. has_serial n g ≡ false) fs
later_other n [] h = tt
later_other n (f ∷ fs) h = (not_own n f.serial h.0, later_other n fs h.1)

-- ---- back from a frame to its random access point

none_after : (b : Bool) (r : Option ℕ) → last_place_after b r ≡ None → (b ≡ false) × (r ≡ None)
none_after b (Some i) e = absurd cc
none_after true None e = absurd cc
none_after false None e = (refl, refl)

linked : (m : ℕ) (f : Stored) → (f.frame.sync ≡ true) ⊎ IsSuccessor (Some m) f.serial → f.frame.sync ≡ false → m + 1 ≡ f.serial
linked m f (inl sync) other = absurd cc
linked m f (inr next) other = next

apart : (a b : ℕ) → (a ≡ b → ⊥) → a ≤ b → a + 1 ≤ b
apart a b e l = grind (arith, nat_tests)

-- behind a frame with no random access point to follow, no serial of one comes up to the last frame
back_to : (syncs : List ℕ) (m e z n : ℕ) (fs : List Stored) → is_among e syncs ≡ true → IsChained (Some m) fs → AllByRecursion (IsToldBy syncs) fs → last_place (λ f. f.frame.sync) (take n fs) ≡ None → last_serial (Some m) (take n fs) ≡ Some z → e ≤ z → e ≤ m
back_to syncs m e z zero fs a chain told none last low = let k : m ≡ z = cc in omega arith
back_to syncs m e z (suc n) [] a chain told none last low = let k : m ≡ z = cc in omega arith
back_to syncs m e z (suc n) (f ∷ fs) a chain told none last low =
    let no = none_after f.frame.sync (last_place (λ g. g.frame.sync) (take n fs)) none in
    let next = linked m f chain.0 no.0 in
    let up = back_to syncs f.serial e z n fs a chain.1 told.1 no.1 last low in
    let other : e ≡ f.serial → ⊥ = λ k. let s = told.0 ∙ ap (λ i. is_among i syncs) (sym k) ∙ a in let o = no.0 in absurd cc in
    let far = apart e f.serial other up in
    omega arith

up_to_last : (m z n : ℕ) (fs : List Stored) → AllByRecursion (λ g. m < g.serial) fs → IsAscending fs → last_serial (Some m) (take n fs) ≡ Some z → m ≤ z
up_to_last m z zero fs l up e = let k : m ≡ z = cc in omega arith
up_to_last m z (suc n) [] l up e = let k : m ≡ z = cc in omega arith
up_to_last m z (suc n) (f ∷ fs) l up e = let rest = up_to_last f.serial z n fs up.0 up.1 e in let first = l.0 in omega arith

-- e is the greatest serial of a random access point up to z
pub record IsGreatest (syncs : List ℕ) (e z : ℕ) : Type 0 where
  pub among : is_among e syncs ≡ true
  pub low : e ≤ z
  pub high : (k : ℕ) → is_among k syncs ≡ true → k ≤ z → k ≤ e

has_own : (f : Stored) (e : ℕ) → f.serial ≡ e → has_serial e f ≡ true
has_own f e k = grind (arith, nat_tests)

own_of : (f : Stored) (e : ℕ) → has_serial e f ≡ true → f.serial ≡ e
own_of f e k = grind (arith, nat_tests)

step_found : (f : Stored) (fs : List Stored) (e j : ℕ) (b : Bool) → has_serial e f ≡ b → AllByRecursion (λ g. f.serial < g.serial) fs → position (has_serial e) fs ≡ Some j → position (has_serial e) (f ∷ fs) ≡ Some (j + 1)
step_found f fs e j true own l h =
    let none = position_none (has_serial e) fs (subst (λ i. AllByRecursion (λ g. has_serial i g ≡ false) fs) (own_of f e own) (later_other f.serial fs l)) in
    absurd cc
step_found f fs e j false own l h = position_more (has_serial e) f fs j own h

group_step : (syncs : List ℕ) (before : Option ℕ) (e z s n : ℕ) (f : Stored) (fs : List Stored) (b : Bool) (r : Option ℕ) → f.frame.sync ≡ b → last_place (λ g. g.frame.sync) (take n fs) ≡ r → IsGreatest syncs e z → IsChained before (f ∷ fs) → IsAscending (f ∷ fs) → AllByRecursion (IsToldBy syncs) (f ∷ fs) → last_serial (Some f.serial) (take n fs) ≡ Some z → last_place_after b r ≡ Some s → ((j : ℕ) → r ≡ Some j → position (has_serial e) fs ≡ Some j) → position (has_serial e) (f ∷ fs) ≡ Some s
group_step syncs before e z s n f fs b (Some j) sync rest g chain up told last place ih =
    let same : Some (j + 1) ≡ Some s = place in
    step_found f fs e j (has_serial e f) refl up.0 (ih j refl) ∙ same
group_step syncs before e z s n f fs true None sync rest g chain up told last place ih =
    let back = back_to syncs f.serial e z n fs g.among chain.1 told.1 rest last g.low in
    let own = g.high f.serial (sym told.0 ∙ sync) (up_to_last f.serial z n fs up.0 up.1 last) in
    let same : Some 0 ≡ Some s = place in
    position_here (has_serial e) f fs (has_own f e (omega arith)) ∙ same
group_step syncs before e z s n f fs false None sync rest g chain up told last place ih = absurd cc

-- the last random access point is where its serial stands
place_of_group : (syncs : List ℕ) (before : Option ℕ) (e z s n : ℕ) (fs : List Stored) → IsGreatest syncs e z → IsChained before fs → IsAscending fs → AllByRecursion (IsToldBy syncs) fs → last_serial before (take n fs) ≡ Some z → last_place (λ f. f.frame.sync) (take n fs) ≡ Some s → position (has_serial e) fs ≡ Some s
place_of_group syncs before e z s zero fs g chain up told last place = absurd cc
place_of_group syncs before e z s (suc n) [] g chain up told last place = absurd cc
place_of_group syncs before e z s (suc n) (f ∷ fs) g chain up told last place =
    group_step syncs before e z s n f fs f.frame.sync (last_place (λ h. h.frame.sync) (take n fs)) refl refl g chain up told last place (λ j r. place_of_group syncs (Some f.serial) e z j n fs g chain.1 up.1 told.1 last r)

-- ---- the group of the frame at a place, or of the last frame

some_after : (b : Bool) (r : Option ℕ) → b ≡ true → (s : ℕ) × (last_place_after b r ≡ Some s)
some_after b (Some i) e = (i + 1, refl)
some_after true None e = (0, refl)
some_after false None e = absurd cc

first_sync : (f : Stored) → (f.frame.sync ≡ true) ⊎ IsSuccessor None f.serial → f.frame.sync ≡ true
first_sync f (inl sync) = sync
first_sync f (inr none) = absurd none

last_at : (before : Option ℕ) (k : ℕ) (fs : List Stored) (x : Stored) → k < length fs → last_serial before (take (suc k) fs) ≡ Some (get_or fs k x).serial
last_at before k [] x l = absurd (omega arith)
last_at before zero (f ∷ fs) x l = refl
last_at before (suc k) (f ∷ fs) x l = last_at (Some f.serial) k fs x (omega arith)

greatest_of : (serial e : ℕ) (syncs : List ℕ) → IsLastUpTo serial syncs (Some e) → IsGreatest syncs e serial
greatest_of serial e syncs h = record { among = h.0; low = h.1; high = λ k a l. among_each (λ n. n ≤ serial → n ≤ e) k syncs a h.2 l }

take_past : (fs : List Stored) (m n : ℕ) → length fs ≤ m → length fs ≤ n → take m fs ≡ take n fs
take_past [] zero zero p q = refl
take_past [] zero (suc n) p q = refl
take_past [] (suc m) zero p q = refl
take_past [] (suc m) (suc n) p q = refl
take_past (x ∷ xs) zero n p q = absurd (omega arith)
take_past (x ∷ xs) (suc m) zero p q = absurd (omega arith)
take_past (x ∷ xs) (suc m) (suc n) p q = ap (λ zs. x ∷ zs) (take_past xs m n (omega arith) (omega arith))

-- k is the place i, or that of the last frame where i is behind all
abbrev pub IsPlaceUpTo : ℕ → ℕ → ℕ → Type 0
IsPlaceUpTo i k n = (k ≡ i) ⊎ ((k + 1 ≡ n) × (n ≤ i))

up_to_place : (i k : ℕ) (fs : List Stored) → IsPlaceUpTo i k (length fs) → take (suc k) fs ≡ take (i + 1) fs
up_to_place i k fs (inl e) = let z : suc k ≡ i + 1 = omega arith in ap (λ n. take n fs) z
up_to_place i k fs (inr e) = let a = e.0 in let b = e.1 in take_past fs (suc k) (i + 1) (omega arith) (omega arith)

place_in_group : (syncs : List ℕ) (e k : ℕ) (fs : List Stored) (x : Stored) → k < length fs → x ≡ get_or fs k x → IsAscending fs → IsChained None fs → AllByRecursion (IsToldBy syncs) fs → IsGreatest syncs e x.serial → position (has_serial e) fs ≡ last_place (λ f. f.frame.sync) (take (suc k) fs)
place_in_group syncs e k [] x l at up chain told g = absurd (omega arith)
place_in_group syncs e k (f ∷ fs) x l at up chain told g =
    let start = some_after f.frame.sync (last_place (λ h. h.frame.sync) (take k fs)) (first_sync f chain.0) in
    let last : last_serial None (take (suc k) (f ∷ fs)) ≡ Some x.serial = last_at None k (f ∷ fs) x l ∙ ap (λ (y : Stored). Some y.serial) (sym at) in
    place_of_group syncs None e x.serial start.0 (suc k) (f ∷ fs) g chain up told last start.1 ∙ sym start.1

pub group_found : (syncs : List ℕ) (i k e : ℕ) (fs : List Stored) (x : Stored) → k < length fs → IsPlaceUpTo i k (length fs) → x ≡ get_or fs k x → IsAscending fs → IsChained None fs → AreSyncsOf fs syncs → IsLastUpTo x.serial syncs (Some e) → position (has_serial e) fs ≡ group_start_of i fs
group_found syncs i k e fs x l which at up chain h found =
    place_in_group syncs e k fs x l at up chain h.telling (greatest_of x.serial e syncs found) ∙ ap (last_place (λ f. f.frame.sync)) (up_to_place i k fs which)

-- a frame has a random access point up to it
pub group_there : (syncs : List ℕ) (k : ℕ) (fs : List Stored) (x : Stored) → k < length fs → x ≡ get_or fs k x → IsAscending fs → IsChained None fs → AreSyncsOf fs syncs → IsLastUpTo x.serial syncs None → ⊥
group_there syncs k [] x l at up chain h none = absurd (omega arith)
group_there syncs k (f ∷ fs) x l at up chain h none =
    let last : last_serial None (take (suc k) (f ∷ fs)) ≡ Some x.serial = last_at None k (f ∷ fs) x l ∙ ap (λ (y : Stored). Some y.serial) (sym at) in
    let low = up_to_last f.serial x.serial k fs up.0 up.1 last in
    let t = h.telling in
    let high = among_each (λ n. x.serial < n) f.serial syncs (sym t.0 ∙ first_sync f chain.0) none in
    absurd (omega arith)
