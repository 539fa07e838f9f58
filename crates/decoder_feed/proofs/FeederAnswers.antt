-- What a feeder gives, call by call and over many calls.
use Rattle.std.proofs.Common.{◌≡◌, ◌∙◌, ℕ, ℤ, zero, suc, ◌+◌, ◌<◌, ◌⊎◌, inl, inr, nat_le, nat_lt, not, Bool, true, false, cond, List, [], ◌∷◌, length, take, drop, replicate, slice_get, Option, Some, None, refl, sym, ap, subst, arith}
use Rattle.std.specs.Prelude.{⊤}
use Rattle.std.specs.List.{AllByRecursion, position, position_or_len}
use Rattle.std.specs.Option.{IfSome}
use Rattle.std.proofs.lemmas.Bool.Decides.{nat_tests}
use Rattle.std.proofs.lemmas.List.Quantifiers.{position-Some}
use Rattle.std.proofs.lemmas.Option.{slice_get_within, get_or_from_slice_get}
use Rattle.track_store.specs.declared.store.Stored.{Stored}
use Rattle.track_store.specs.Frames.{IsAscending, has_serial, overlapped}
use Rattle.track_store.specs.Sound.{IsSound}
use Rattle.track_store.specs.State.{TrackState}
use Rattle.track_store.proofs.ClearedLists.{each_at}
use Rattle.decoder_feed.specs.declared.steps.FeedNext.{FeedNext}
use Rattle.decoder_feed.specs.declared.steps.FeedNext.TheVariants.{Frame, Wait}
use Rattle.decoder_feed.specs.Feed.{IsInOrder, group_serial, group_up_to, feed_of}
use Rattle.decoder_feed.specs.Steps.{FeederState, idle, feeder_after_seek_to, feeder_after_seek, answer_with, answer_of, answer_at, answer_to, next_answer, feeder_after}
use Rattle.decoder_feed.specs.Runs.{frame_given, with_first, frames_given, IsAfterGiven, IsFeeding, AreGiven}
use Rattle.decoder_feed.proofs.Groups.{HasPlaceIn, each_placed, shown_placed, all_take, le_no, has_group, group_at, group_in_order}

-- ---- a frame by its serial

-- the frame at a place is the first of its serial
place_or_len : (fs : List Stored) (i : ℕ) (x : Stored) → IsAscending fs → slice_get fs i ≡ Some x → position_or_len (has_serial x.serial) fs ≡ i
place_or_len [] i x up at = cc
place_or_len (f ∷ fs) zero x up at =
    let own : f ≡ x = cc in
    let is : has_serial x.serial f ≡ true = subst (λ y. has_serial y.serial f ≡ true) own (grind (arith, nat_tests)) in
    ap (λ b. cond (not b) (1 + position_or_len (has_serial x.serial) fs) 0) is
place_or_len (f ∷ fs) (suc i) x up at =
    let before : f.serial < x.serial = each_at (λ g. f.serial < g.serial) fs i x up.0 at in
    let other : has_serial x.serial f ≡ false = grind (arith, nat_tests) in
    let rest = place_or_len fs i x up.1 at in
    ap (λ b. cond (not b) (1 + position_or_len (has_serial x.serial) fs) 0) other ∙ omega arith

lt_yes : (a b : ℕ) → a < b → nat_lt a b ≡ true
lt_yes a b h = grind (arith, nat_tests)

pub place_is : (fs : List Stored) (i : ℕ) (x : Stored) → IsAscending fs → slice_get fs i ≡ Some x → position (has_serial x.serial) fs ≡ Some i
place_is fs i x up at =
    ap (λ n. cond (nat_lt n (length fs)) (Some n) None) (place_or_len fs i x up at) ∙ ap (λ b. cond b (Some i) None) (lt_yes i (length fs) (slice_get_within fs i x at))

serial_same : (n : ℕ) (f : Stored) → has_serial n f ≡ true → n ≡ f.serial
serial_same n f h = grind (arith, nat_tests)

pub serial_at : (fs : List Stored) (n i : ℕ) (f : Stored) → position (has_serial n) fs ≡ Some i → slice_get fs i ≡ Some f → n ≡ f.serial
serial_at fs n i f place at =
    let hit = position-Some (has_serial n) fs i f place in
    serial_same n f (subst (λ g. has_serial n g ≡ true) (get_or_from_slice_get fs i f f at) hit.1)

-- ---- one call

abbrev pub IsLinked : Option ℕ → Stored → Type 0
IsLinked None f = f.frame.sync ≡ true
IsLinked (Some before) f = f.frame.sync ≡ false

-- nothing is given, and nothing changes
pub record IsStill (s : FeederState) (fs : List Stored) (a : FeedNext) : Type 0 where
  pub none : frame_given fs a ≡ None
  pub same : feeder_after a s ≡ s

-- the next frame is given
pub record IsGiven (s : FeederState) (fs : List Stored) (a : FeedNext) (f : Stored) : Type 0 where
  pub given : frame_given fs a ≡ Some f
  pub next : s.next ≡ Some f.serial
  pub after : feeder_after a s ≡ record { next = Some (f.serial + 1); given = Some f.serial }
  pub linked : IsLinked s.given f

abbrev pub IsStillOrGiven : FeederState → List Stored → FeedNext → Type 0
IsStillOrGiven s fs a = IsStill s fs a ⊎ ((f : Stored) × IsGiven s fs a f)

sync_case : (fs : List Stored) (n i : ℕ) (given : Option ℕ) (f : Stored) (b : Bool) → slice_get fs i ≡ Some f → n ≡ f.serial → f.frame.sync ≡ b → IsStillOrGiven (record { next = Some n; given = given }) fs (answer_with given i b)
sync_case fs n i None f true at same e = inr (f, record { given = at; next = ap Some same; after = ap (λ m. record { next = Some (m + 1); given = Some m }) same; linked = e })
sync_case fs n i None f false at same e = inl (record { none = refl; same = refl })
sync_case fs n i (Some before) f true at same e = inl (record { none = refl; same = refl })
sync_case fs n i (Some before) f false at same e = inr (f, record { given = at; next = ap Some same; after = ap (λ m. record { next = Some (m + 1); given = Some m }) same; linked = e })

frame_case : (fs : List Stored) (n i : ℕ) (given : Option ℕ) (r : Option Stored) → position (has_serial n) fs ≡ Some i → slice_get fs i ≡ r → IsStillOrGiven (record { next = Some n; given = given }) fs (answer_of given i r)
frame_case fs n i given None place at = inl (record { none = refl; same = refl })
frame_case fs n i given (Some f) place at = sync_case fs n i given f f.frame.sync at (serial_at fs n i f place at) refl

place_case : (fs : List Stored) (n : ℕ) (given : Option ℕ) (r : Option ℕ) → position (has_serial n) fs ≡ r → IsStillOrGiven (record { next = Some n; given = given }) fs (answer_at given fs r)
place_case fs n given None place = inl (record { none = refl; same = refl })
place_case fs n given (Some i) place = frame_case fs n i given (slice_get fs i) place refl

wait_case : (fs : List Stored) (s : FeederState) (b : Bool) (a : FeedNext) → IsStillOrGiven s fs a → IsStillOrGiven s fs (cond b Wait a)
wait_case fs s true a h = inl (record { none = refl; same = refl })
wait_case fs s false a h = h

still_or_given_of : (t : TrackState) (next given : Option ℕ) → IsStillOrGiven (record { next = next; given = given }) t.frames (answer_to t given next)
still_or_given_of t None given = inl (record { none = refl; same = refl })
still_or_given_of t (Some n) given = wait_case t.frames (record { next = Some n; given = given }) (nat_le t.marks.received n) _ (place_case t.frames n given (position (has_serial n) t.frames) refl)

pub still_or_given : (s : FeederState) (t : TrackState) → IsStillOrGiven s t.frames (next_answer s t)
still_or_given s t = still_or_given_of t s.next s.given

-- what is kept stays
still_feeding : (s : FeederState) (fs : List Stored) (a : FeedNext) → IsFeeding s → IsStillOrGiven s fs a → IsFeeding (feeder_after a s)
still_feeding s fs a h (inl still) = subst IsFeeding (sym still.same) h
still_feeding s fs a h (inr gives) = subst IsFeeding (sym gives.1.after) refl

pub keeps_feeding : (s : FeederState) (t : TrackState) → IsFeeding s → IsFeeding (feeder_after (next_answer s t) s)
keeps_feeding s t h = still_feeding s t.frames (next_answer s t) h (still_or_given s t)

-- ---- many calls

goes_on : (given : Option ℕ) (f : Stored) (rest : List Stored) → IsAfterGiven (Some f.serial) given → IsLinked given f → IsInOrder (Some f.serial) rest → IsInOrder given (f ∷ rest)
goes_on None f rest after linked h = (linked, h)
goes_on (Some before) f rest after linked h = (let next : before + 1 ≡ f.serial = cc in (linked, next, h))

call_in_order : (s : FeederState) (fs rest : List Stored) (a : FeedNext) → IsFeeding s → IsStillOrGiven s fs a → IsInOrder (feeder_after a s).given rest → IsInOrder s.given (with_first (frame_given fs a) rest)
call_in_order s fs rest a h (inl still) k =
    subst (λ o. IsInOrder s.given (with_first o rest)) (sym still.none) (subst (λ (u : FeederState). IsInOrder u.given rest) still.same k)
call_in_order s fs rest a h (inr gives) k =
    let f = gives.0 in
    subst (λ o. IsInOrder s.given (with_first o rest)) (sym gives.1.given)
    (goes_on s.given f rest (subst (λ o. IsAfterGiven o s.given) gives.1.next h) gives.1.linked (subst (λ (u : FeederState). IsInOrder u.given rest) gives.1.after k))

empty_in_order : (given : Option ℕ) → IsInOrder given []
empty_in_order given = tt

pub one_in_order : (s : FeederState) (t : TrackState) → IsFeeding s → IsInOrder s.given (with_first (frame_given t.frames (next_answer s t)) [])
one_in_order s t h = call_in_order s t.frames [] (next_answer s t) h (still_or_given s t) (empty_in_order (feeder_after (next_answer s t) s).given)

-- the same of a frame that was looked up
pub frame_in_order : (fs : List Stored) (n place : ℕ) (s : FeederState) → IsFeeding s → s.next ≡ Some n → Frame place ≡ answer_at s.given fs (position (has_serial n) fs) → IsInOrder s.given (with_first (slice_get fs place) [])
frame_in_order fs n place s h next e =
    let a = answer_at s.given fs (position (has_serial n) fs) in
    let u : FeederState = record { next = Some n; given = s.given } in
    let out = place_case fs n s.given (position (has_serial n) fs) refl in
    subst (λ b. IsInOrder s.given (with_first (frame_given fs b) [])) (sym e)
    (call_in_order u fs [] a (subst (λ o. IsAfterGiven o s.given) next h) out (empty_in_order (feeder_after a u).given))

pub run_in_order : (s : FeederState) (ts : List TrackState) → IsFeeding s → IsInOrder s.given (frames_given s ts)
run_in_order s [] h = empty_in_order s.given
run_in_order s (t ∷ ts) h =
    let a = next_answer s t in
    call_in_order s t.frames (frames_given (feeder_after a s) ts) a h (still_or_given s t) (run_in_order (feeder_after a s) ts (keeps_feeding s t h))

from_seek : (o : Option Stored) (fs : List Stored) (ts : List TrackState) → IsInOrder None (frames_given (feeder_after_seek_to o fs) ts)
from_seek None fs ts = run_in_order idle ts tt
from_seek (Some wanted) fs ts = run_in_order (feeder_after_seek_to (Some wanted) fs) ts tt

pub seek_in_order : (time : ℤ) (fs : List Stored) (ts : List TrackState) → IsInOrder None (frames_given (feeder_after_seek time fs) ts)
seek_in_order time fs ts = from_seek (overlapped time fs) fs ts

-- ---- over a track that does not change

record IsHeld (t : TrackState) (x : Stored) : Type 0 where
  received : x.serial < t.marks.received
  place : ℕ
  named : position (has_serial x.serial) t.frames ≡ Some place
  at : slice_get t.frames place ≡ Some x

with_link : (given : Option ℕ) (place : ℕ) (x : Stored) → IsLinked given x → answer_with given place x.frame.sync ≡ Frame place
with_link None place x h = ap (answer_with None place) h
with_link (Some before) place x h = ap (answer_with (Some before) place) h

answer_is : (t : TrackState) (given : Option ℕ) (x : Stored) (h : IsHeld t x) → IsLinked given x → answer_to t given (Some x.serial) ≡ Frame h.place
answer_is t given x h linked =
    ap (λ b. cond b Wait (answer_at given t.frames (position (has_serial x.serial) t.frames))) (le_no t.marks.received x.serial h.received)
    ∙ ap (answer_at given t.frames) h.named
    ∙ ap (answer_of given h.place) h.at
    ∙ with_link given h.place x linked

abbrev IsNextSerial : Option ℕ → List Stored → Type 0
IsNextSerial next [] = ⊤
IsNextSerial next (x ∷ xs) = next ≡ Some x.serial

link_of : (given : Option ℕ) (x : Stored) (xs : List Stored) → IsInOrder given (x ∷ xs) → IsLinked given x × IsInOrder (Some x.serial) xs
link_of None x xs h = (h.0, h.1)
link_of (Some before) x xs h = (h.0, h.2)

comes_after : (n : ℕ) (xs : List Stored) → IsInOrder (Some n) xs → IsNextSerial (Some (n + 1)) xs
comes_after n [] h = tt
comes_after n (x ∷ xs) h = ap Some h.1

all_given : (t : TrackState) (xs : List Stored) (next given : Option ℕ) → AllByRecursion (IsHeld t) xs → IsInOrder given xs → IsNextSerial next xs → frames_given (record { next = next; given = given }) (replicate (length xs) t) ≡ xs
all_given t [] next given held order comes = refl
all_given t (x ∷ xs) next given held order comes =
    let parts = link_of given x xs order in
    let ts = replicate (length xs) t in
    ap (λ (o : Option ℕ). frames_given (record { next = o; given = given }) (t ∷ ts)) comes
    ∙ ap (λ a. with_first (frame_given t.frames a) (frames_given (feeder_after a (record { next = Some x.serial; given = given })) ts)) (answer_is t given x held.0 parts.0)
    ∙ ap (λ o. with_first o (frames_given (record { next = Some (x.serial + 1); given = Some x.serial }) ts)) held.0.at
    ∙ ap (λ ys. x ∷ ys) (all_given t xs (Some (x.serial + 1)) (Some x.serial) held.1 parts.1 (comes_after x.serial xs parts.1))

each_held : (t : TrackState) (gs : List Stored) → IsAscending t.frames → AllByRecursion (HasPlaceIn t.frames) gs → AllByRecursion (λ f. f.serial < t.marks.received) gs → AllByRecursion (IsHeld t) gs
each_held t [] up h low = tt
each_held t (g ∷ gs) up h low =
    (record { received = low.0; place = h.0.0; named = place_is t.frames h.0.0 g up h.0.1; at = h.0.1 }, each_held t gs up h.1 low.1)

all_drop : (P : Stored → Type 0) (n : ℕ) (fs : List Stored) → AllByRecursion P fs → AllByRecursion P (drop n fs)
all_drop P zero fs h = h
all_drop P (suc n) [] h = tt
all_drop P (suc n) (f ∷ fs) h = all_drop P n fs h.1

comes_first : (next : Option ℕ) (fs : List Stored) (i : ℕ) (x : Stored) → slice_get fs i ≡ Some x → next ≡ Some x.serial → IsNextSerial next (drop i fs)
comes_first next [] i x at e = cc
comes_first next (f ∷ fs) zero x at e = (let own : f ≡ x = cc in e ∙ ap (λ (y : Stored). Some y.serial) (sym own))
comes_first next (f ∷ fs) (suc i) x at e = comes_first next fs i x at e

group_given : (t : TrackState) (o : Option Stored) → IsSound t → IfSome o (HasPlaceIn t.frames) → AreGiven (feeder_after_seek_to o t.frames) t (group_up_to o t.frames)
group_given t None sound h = tt
group_given t (Some wanted) sound h =
    let fs = t.frames in
    let i = h.0 in
    let start = has_group fs i wanted sound.chained h.1 in
    let g = group_at fs i start.0 wanted sound.ascending h.1 start.1 in
    let held = all_drop (IsHeld t) start.0 (take (i + 1) fs) (all_take (IsHeld t) (i + 1) fs (each_held t fs sound.ascending (each_placed fs) sound.below)) in
    subst (λ feed. AreGiven (feeder_after_seek_to (Some wanted) fs) t feed) (sym g.1.frames)
    (all_given t (drop start.0 (take (i + 1) fs)) (group_serial wanted.serial fs) None held (group_in_order fs wanted g.0 i start.0 sound.chained g.1 start.1) (comes_first (group_serial wanted.serial fs) (take (i + 1) fs) start.0 g.0 g.1.begins g.1.serial))

pub feed_given : (time : ℤ) (t : TrackState) → IsSound t → AreGiven (feeder_after_seek time t.frames) t (feed_of time t.frames)
feed_given time t sound = group_given t (overlapped time t.frames) sound (shown_placed time t.frames)
