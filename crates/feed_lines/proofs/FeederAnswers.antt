-- What a feeder gives over a track that does not change, as often as it is asked.
use Rattle.std.proofs.Common.{◌≡◌, ◌∙◌, ◌+◌, ◌-◌, ◌<◌, ◌≤◌, inl, inr, ℕ, ℤ, zero, suc, nat_le, Bool, true, false, cond, List, [], ◌∷◌, ◌++◌, replicate, slice_get, Option, Some, None, refl, sym, ap, subst, arith}
use Rattle.std.specs.Option.{IfSome}
use Rattle.std.specs.Prelude.{IsSome, ⊤}
use Rattle.std.specs.List.{position}
use Rattle.std.proofs.lemmas.Bool.Decides.{nat_tests}
use Rattle.track_store.specs.declared.store.Stored.{Stored}
use Rattle.track_store.specs.Frames.{has_serial, overlapped}
use Rattle.track_store.specs.Sound.{last_serial}
use Rattle.track_store.specs.State.{TrackState}
use Rattle.decoder_feed.specs.declared.steps.FeedNext.{FeedNext}
use Rattle.decoder_feed.specs.declared.steps.FeedNext.TheVariants.{Frame, Idle, Wait, Lost, GroupEnd}
use Rattle.decoder_feed.specs.Runs.{frame_given, frames_given, with_first}
use Rattle.decoder_feed.specs.Steps.{FeederState, answer_with, answer_of, answer_at, answer_to, next_answer, feeder_after, feeder_after_seek, feeder_after_seek_to}
use Rattle.decoder_feed.proofs.FeederAnswers.{IsStillOrGiven, still_or_given}
use Rattle.feed_lines.specs.Groups.{Feeding, feeding_with, feeding_from, feeding, IsEnd}

-- so many calls are enough for all that a feeder gives
abbrev pub AreEnough : TrackState → FeederState → ℕ → Type 0
AreEnough t s m = IfSome s.next (λ n. t.marks.received ≤ n + m)

-- how many calls are
abbrev pub calls_left : TrackState → Option ℕ → ℕ
calls_left t None = 0
calls_left t (Some n) = t.marks.received - n

pub enough_left : (t : TrackState) (next given : Option ℕ) → AreEnough t (record { next = next; given = given }) (calls_left t next)
enough_left t None given = tt
enough_left t (Some n) given = omega arith

-- what it gives from here on
abbrev pub rest_of : TrackState → FeederState → List Stored
rest_of t s = frames_given s (replicate (calls_left t s.next) t)

-- ---- nothing more

pub none_given : (t : TrackState) (s : FeederState) (j : ℕ) → frame_given t.frames (next_answer s t) ≡ None → feeder_after (next_answer s t) s ≡ s → frames_given s (replicate j t) ≡ []
none_given t s zero none same = refl
none_given t s (suc j) none same =
    ap (λ o. with_first o (frames_given (feeder_after (next_answer s t) s) (replicate j t))) none
    ∙ ap (λ x. frames_given x (replicate j t)) same
    ∙ none_given t s j none same

-- ---- one more

received_by : (t : TrackState) (n : ℕ) (b : Bool) (a : FeedNext) (place : ℕ) → nat_le t.marks.received n ≡ b → cond b Wait a ≡ Frame place → n < t.marks.received
received_by t n true a place e is = cc
received_by t n false a place e is = grind (arith, nat_tests)

received_to : (t : TrackState) (given next : Option ℕ) (place : ℕ) → answer_to t given next ≡ Frame place → IfSome next (λ n. n < t.marks.received)
received_to t given None place is = tt
received_to t given (Some n) place is = received_by t n (nat_le t.marks.received n) _ place refl is

-- a frame that is given was received
pub received : (t : TrackState) (s : FeederState) (place : ℕ) → next_answer s t ≡ Frame place → IfSome s.next (λ n. n < t.marks.received)
received t s place is = received_to t s.given s.next place is

is_frame : (fs : List Stored) (a : FeedNext) (f : Stored) → frame_given fs a ≡ Some f → (place : ℕ) × (a ≡ Frame place)
is_frame fs (Frame place) f e = (place, refl)
is_frame fs Idle f e = cc
is_frame fs Wait f e = cc
is_frame fs Lost f e = cc
is_frame fs GroupEnd f e = cc

at_most : (t : TrackState) (next : Option ℕ) (given : Option ℕ) (m serial : ℕ) → next ≡ Some serial → IfSome next (λ n. n < t.marks.received) → AreEnough t (record { next = next; given = given }) m → (serial < t.marks.received) × (t.marks.received ≤ serial + m)
at_most t None given m serial e h k = cc
at_most t (Some n) given m serial e h k = let same : n ≡ serial = cc in (omega arith, omega arith)

-- any two numbers of calls that are enough give the same
by_case : (t : TrackState) (s : FeederState) (m k : ℕ) → ((s' : FeederState) (m' k' : ℕ) → m ≡ suc m' → AreEnough t s' m' → AreEnough t s' k' → frames_given s' (replicate m' t) ≡ frames_given s' (replicate k' t))
    → AreEnough t s m → AreEnough t s k → IsStillOrGiven s t.frames (next_answer s t) → frames_given s (replicate m t) ≡ frames_given s (replicate k t)
by_case t s m k ih em ek (inl still) = none_given t s m still.none still.same ∙ sym (none_given t s k still.none still.same)
by_case t s zero k ih em ek (inr (f, gives)) =
    let frame = is_frame t.frames (next_answer s t) f gives.given in
    let low = at_most t s.next s.given zero f.serial gives.next (received t s frame.0 frame.1) em in
    absurd (omega (arith, low.0, low.1))
by_case t s (suc m) zero ih em ek (inr (f, gives)) =
    let frame = is_frame t.frames (next_answer s t) f gives.given in
    let low = at_most t s.next s.given zero f.serial gives.next (received t s frame.0 frame.1) ek in
    absurd (omega (arith, low.0, low.1))
by_case t s (suc m) (suc k) ih em ek (inr (f, gives)) =
    let s' : FeederState = record { next = Some (f.serial + 1); given = Some f.serial } in
    let frame = is_frame t.frames (next_answer s t) f gives.given in
    let more = at_most t s.next s.given (suc m) f.serial gives.next (received t s frame.0 frame.1) em in
    let less = at_most t s.next s.given (suc k) f.serial gives.next (received t s frame.0 frame.1) ek in
    ap (λ x. with_first (frame_given t.frames (next_answer s t)) (frames_given x (replicate m t))) gives.after
    ∙ ap (λ xs. with_first (frame_given t.frames (next_answer s t)) xs) (ih s' m k refl (omega (arith, more.1)) (omega (arith, less.1)))
    ∙ ap (λ x. with_first (frame_given t.frames (next_answer s t)) (frames_given x (replicate k t))) (sym gives.after)

pub all_same : (m : ℕ) (t : TrackState) (s : FeederState) (k : ℕ) → AreEnough t s m → AreEnough t s k → frames_given s (replicate m t) ≡ frames_given s (replicate k t)
all_same zero t s k em ek = by_case t s zero k (λ s' m' k' e h g. cc) em ek (still_or_given s t)
all_same (suc m) t s k em ek =
    by_case t s (suc m) k (λ s' m' k' e h g. let same : m ≡ m' = cc in subst (λ j. frames_given s' (replicate j t) ≡ frames_given s' (replicate k' t)) same (all_same m t s' k' (subst (λ j. AreEnough t s' j) (sym same) h) g)) em ek (still_or_given s t)

-- fewer calls give a front of it
front_by : (t : TrackState) (s : FeederState) (k m : ℕ) → ((s' : FeederState) (k' m' : ℕ) → k ≡ suc k' → AreEnough t s' m' → (rest : List Stored) × (frames_given s' (replicate m' t) ≡ frames_given s' (replicate k' t) ++ rest))
    → AreEnough t s m → IsStillOrGiven s t.frames (next_answer s t) → (rest : List Stored) × (frames_given s (replicate m t) ≡ frames_given s (replicate k t) ++ rest)
front_by t s k m ih em (inl still) = ([], none_given t s m still.none still.same ∙ sym (ap (λ xs. xs ++ []) (none_given t s k still.none still.same)))
front_by t s zero m ih em (inr gives) = (frames_given s (replicate m t), refl)
front_by t s (suc k) zero ih em (inr (f, gives)) =
    let frame = is_frame t.frames (next_answer s t) f gives.given in
    let low = at_most t s.next s.given zero f.serial gives.next (received t s frame.0 frame.1) em in
    absurd (omega (arith, low.0, low.1))
front_by t s (suc k) (suc m) ih em (inr (f, gives)) =
    let s' : FeederState = record { next = Some (f.serial + 1); given = Some f.serial } in
    let frame = is_frame t.frames (next_answer s t) f gives.given in
    let more = at_most t s.next s.given (suc m) f.serial gives.next (received t s frame.0 frame.1) em in
    let rest = ih s' k m refl (omega (arith, more.1)) in
    let step : (j : ℕ) → frames_given s (replicate (suc j) t) ≡ f ∷ frames_given s' (replicate j t) =
    λ j. ap (λ x. with_first (frame_given t.frames (next_answer s t)) (frames_given x (replicate j t))) gives.after ∙ ap (λ o. with_first o (frames_given s' (replicate j t))) gives.given in
    (rest.0, step m ∙ ap (λ xs. f ∷ xs) rest.1 ∙ ap (λ xs. xs ++ rest.0) (sym (step k)))

pub front_of_all : (k : ℕ) (t : TrackState) (s : FeederState) (m : ℕ) → AreEnough t s m → (rest : List Stored) × (frames_given s (replicate m t) ≡ frames_given s (replicate k t) ++ rest)
front_of_all zero t s m em = front_by t s zero m (λ s' k' m' e h. cc) em (still_or_given s t)
front_of_all (suc k) t s m em =
    front_by t s (suc k) m (λ s' k' m' e h. let same : k ≡ k' = cc in subst (λ j. (rest : List Stored) × (frames_given s' (replicate m' t) ≡ frames_given s' (replicate j t) ++ rest)) same (front_of_all k t s' m' h)) em (still_or_given s t)

-- ---- the frames and the end together

none_after : (n : ℕ) (t : TrackState) (s : FeederState) → IsStillOrGiven s t.frames (next_answer s t) → frame_given t.frames (next_answer s t) ≡ None → frames_given (feeder_after (next_answer s t) s) (replicate n t) ≡ []
none_after n t s (inl still) none = ap (λ x. frames_given x (replicate n t)) still.same ∙ none_given t s n still.none still.same
none_after n t s (inr (f, gives)) none = (let clash = sym none ∙ gives.given in cc)

frames_step : (o : Option Stored) (a : FeedNext) (behind : Feeding) (fs : List Stored) → behind.frames ≡ fs → (o ≡ None → fs ≡ []) → (feeding_with o a behind).frames ≡ with_first o fs
frames_step None a behind fs e none = sym (none refl)
frames_step (Some f) a behind fs e none = ap (λ xs. f ∷ xs) e

pub frames_same : (n : ℕ) (t : TrackState) (s : FeederState) → (feeding_from n s t).frames ≡ frames_given s (replicate n t)
frames_same zero t s = refl
frames_same (suc n) t s =
    frames_step (frame_given t.frames (next_answer s t)) (next_answer s t) (feeding_from n (feeder_after (next_answer s t) s) t) (frames_given (feeder_after (next_answer s t) s) (replicate n t))
    (frames_same n t (feeder_after (next_answer s t) s)) (none_after n t s (still_or_given s t))

pub none_end : (t : TrackState) (s : FeederState) (j : ℕ) → frame_given t.frames (next_answer s t) ≡ None → (feeding_from j s t).end ≡ next_answer s t
none_end t s zero none = refl
none_end t s (suc j) none = ap (λ o. (feeding_with o (next_answer s t) (feeding_from j (feeder_after (next_answer s t) s) t)).end) none

none_frames : (t : TrackState) (s : FeederState) (j : ℕ) → frame_given t.frames (next_answer s t) ≡ None → (feeding_from j s t).frames ≡ []
none_frames t s zero none = refl
none_frames t s (suc j) none = ap (λ o. (feeding_with o (next_answer s t) (feeding_from j (feeder_after (next_answer s t) s) t)).frames) none

-- where a frame is given, what comes behind it
behind : (t : TrackState) (s s' : FeederState) (m : ℕ) (f : Stored) → frame_given t.frames (next_answer s t) ≡ Some f → feeder_after (next_answer s t) s ≡ s' → feeding_from (suc m) s t ≡ record { frames = f ∷ (feeding_from m s' t).frames; end = (feeding_from m s' t).end }
behind t s s' m f given after =
    ap (λ o. feeding_with o (next_answer s t) (feeding_from m (feeder_after (next_answer s t) s) t)) given
    ∙ ap (λ x. feeding_with (Some f) (next_answer s t) (feeding_from m x t)) after

-- any two numbers of calls that are enough come to the same end
ends_case : (t : TrackState) (s : FeederState) (m k : ℕ) → ((s' : FeederState) (m' k' : ℕ) → m ≡ suc m' → AreEnough t s' m' → AreEnough t s' k' → (feeding_from m' s' t).end ≡ (feeding_from k' s' t).end)
    → AreEnough t s m → AreEnough t s k → IsStillOrGiven s t.frames (next_answer s t) → (feeding_from m s t).end ≡ (feeding_from k s t).end
ends_case t s m k ih em ek (inl still) = none_end t s m still.none ∙ sym (none_end t s k still.none)
ends_case t s zero k ih em ek (inr (f, gives)) =
    let frame = is_frame t.frames (next_answer s t) f gives.given in
    let low = at_most t s.next s.given zero f.serial gives.next (received t s frame.0 frame.1) em in
    absurd (omega (arith, low.0, low.1))
ends_case t s (suc m) zero ih em ek (inr (f, gives)) =
    let frame = is_frame t.frames (next_answer s t) f gives.given in
    let low = at_most t s.next s.given zero f.serial gives.next (received t s frame.0 frame.1) ek in
    absurd (omega (arith, low.0, low.1))
ends_case t s (suc m) (suc k) ih em ek (inr (f, gives)) =
    let s' : FeederState = record { next = Some (f.serial + 1); given = Some f.serial } in
    let frame = is_frame t.frames (next_answer s t) f gives.given in
    let more = at_most t s.next s.given (suc m) f.serial gives.next (received t s frame.0 frame.1) em in
    let less = at_most t s.next s.given (suc k) f.serial gives.next (received t s frame.0 frame.1) ek in
    ap (λ (x : Feeding). x.end) (behind t s s' m f gives.given gives.after)
    ∙ ih s' m k refl (omega (arith, more.1)) (omega (arith, less.1))
    ∙ ap (λ (x : Feeding). x.end) (sym (behind t s s' k f gives.given gives.after))

pub ends_same : (m : ℕ) (t : TrackState) (s : FeederState) (k : ℕ) → AreEnough t s m → AreEnough t s k → (feeding_from m s t).end ≡ (feeding_from k s t).end
ends_same zero t s k em ek = ends_case t s zero k (λ s' m' k' e h g. cc) em ek (still_or_given s t)
ends_same (suc m) t s k em ek =
    ends_case t s (suc m) k (λ s' m' k' e h g. let same : m ≡ m' = cc in subst (λ j. (feeding_from j s' t).end ≡ (feeding_from k' s' t).end) same (ends_same m t s' k' (subst (λ j. AreEnough t s' j) (sym same) h) g)) em ek (still_or_given s t)

-- ---- the end is one of three answers

-- a feeder that was sought is not idle
abbrev IsNotIdle : FeedNext → Type 0
IsNotIdle (Frame place) = ⊤
IsNotIdle Idle = ⊥
IsNotIdle Wait = ⊤
IsNotIdle Lost = ⊤
IsNotIdle GroupEnd = ⊤

not_idle_with : (given : Option ℕ) (place : ℕ) (sync : Bool) → IsNotIdle (answer_with given place sync)
not_idle_with None place true = tt
not_idle_with None place false = tt
not_idle_with (Some n) place true = tt
not_idle_with (Some n) place false = tt

not_idle_of : (given : Option ℕ) (place : ℕ) (o : Option Stored) → IsNotIdle (answer_of given place o)
not_idle_of given place None = tt
not_idle_of given place (Some f) = not_idle_with given place f.frame.sync

not_idle_at : (given : Option ℕ) (fs : List Stored) (o : Option ℕ) → IsNotIdle (answer_at given fs o)
not_idle_at given fs None = tt
not_idle_at given fs (Some place) = not_idle_of given place (slice_get fs place)

not_idle_by : (b : Bool) (a : FeedNext) → IsNotIdle a → IsNotIdle (cond b Wait a)
not_idle_by true a h = tt
not_idle_by false a h = h

not_idle_to : (t : TrackState) (given next : Option ℕ) → IsSome next → IsNotIdle (answer_to t given next)
not_idle_to t given None h = cc
not_idle_to t given (Some n) h = not_idle_by (nat_le t.marks.received n) (answer_at given t.frames (position (has_serial n) t.frames)) (not_idle_at given t.frames (position (has_serial n) t.frames))

moved_on : (next given : Option ℕ) (place : ℕ) → IsSome next → feeder_after (Frame place) (record { next = next; given = given }) ≡ record { next = next; given = given } → ⊥
moved_on None given place h e = cc
moved_on (Some n) given place h e = let same : Some (n + 1) ≡ Some n = ap (λ (x : FeederState). x.next) e in let own : n + 1 ≡ n = cc in omega (arith, own)

end_of_still : (s : FeederState) (a : FeedNext) → IsSome s.next → IsNotIdle a → feeder_after a s ≡ s → IsEnd a
end_of_still s (Frame place) some idle same = absurd (moved_on s.next s.given place some same)
end_of_still s Idle some idle same = absurd idle
end_of_still s Wait some idle same = tt
end_of_still s Lost some idle same = tt
end_of_still s GroupEnd some idle same = tt

end_case : (n : ℕ) (t : TrackState) (s : FeederState) → ((s' : FeederState) (m : ℕ) → n ≡ suc m → AreEnough t s' m → IsSome s'.next → IsEnd (feeding_from m s' t).end)
    → AreEnough t s n → IsSome s.next → IsStillOrGiven s t.frames (next_answer s t) → IsEnd (feeding_from n s t).end
end_case n t s ih en some (inl still) =
    subst IsEnd (sym (none_end t s n still.none)) (end_of_still s (next_answer s t) some (not_idle_to t s.given s.next some) still.same)
end_case zero t s ih en some (inr (f, gives)) =
    let frame = is_frame t.frames (next_answer s t) f gives.given in
    let low = at_most t s.next s.given zero f.serial gives.next (received t s frame.0 frame.1) en in
    absurd (omega (arith, low.0, low.1))
end_case (suc n) t s ih en some (inr (f, gives)) =
    let s' : FeederState = record { next = Some (f.serial + 1); given = Some f.serial } in
    let frame = is_frame t.frames (next_answer s t) f gives.given in
    let more = at_most t s.next s.given (suc n) f.serial gives.next (received t s frame.0 frame.1) en in
    subst (λ (x : Feeding). IsEnd x.end) (sym (behind t s s' n f gives.given gives.after)) (ih s' n refl (omega (arith, more.1)) refl)

pub ends_in_three : (n : ℕ) (t : TrackState) (s : FeederState) → AreEnough t s n → IsSome s.next → IsEnd (feeding_from n s t).end
ends_in_three zero t s en some = end_case zero t s (λ s' m e h k. cc) en some (still_or_given s t)
ends_in_three (suc n) t s en some =
    end_case (suc n) t s (λ s' m e h k. let same : n ≡ m = cc in subst (λ j. IsEnd (feeding_from j s' t).end) same (ends_in_three n t s' (subst (λ j. AreEnough t s' j) (sym same) h) k)) en some (still_or_given s t)

-- a feeder that was not sought gives nothing
idle_to : (t : TrackState) (given next : Option ℕ) → next ≡ None → answer_to t given next ≡ Idle
idle_to t given next e = ap (answer_to t given) e

pub idle_frames : (n : ℕ) (t : TrackState) (s : FeederState) → s.next ≡ None → (feeding_from n s t).frames ≡ []
idle_frames n t s e = none_frames t s n (ap (frame_given t.frames) (idle_to t s.given s.next e))

-- ---- the answer behind the last frame

-- what a feeder keeps that gave a frame last
abbrev pub IsBehindGiven : FeederState → Type 0
IsBehindGiven s = (last : ℕ) → s.given ≡ Some last → s ≡ record { next = Some (last + 1); given = Some last }

end_here : (t : TrackState) (s : FeederState) (fs : List Stored) (last : ℕ) → fs ≡ [] → IsBehindGiven s → last_serial s.given fs ≡ Some last → next_answer s t ≡ next_answer (record { next = Some (last + 1); given = Some last }) t
end_here t s fs last none own h = ap (λ (x : FeederState). next_answer x t) (own last (sym (ap (last_serial s.given) none) ∙ h))

behind_case : (n : ℕ) (t : TrackState) (s : FeederState) (last : ℕ) → ((s' : FeederState) (m : ℕ) → n ≡ suc m → IsBehindGiven s' → last_serial s'.given (feeding_from m s' t).frames ≡ Some last → (feeding_from m s' t).end ≡ next_answer (record { next = Some (last + 1); given = Some last }) t)
    → IsBehindGiven s → IsStillOrGiven s t.frames (next_answer s t) → last_serial s.given (feeding_from n s t).frames ≡ Some last → (feeding_from n s t).end ≡ next_answer (record { next = Some (last + 1); given = Some last }) t
behind_case n t s last ih own (inl still) h = none_end t s n still.none ∙ end_here t s (feeding_from n s t).frames last (none_frames t s n still.none) own h
behind_case zero t s last ih own (inr gives) h = end_here t s [] last refl own h
behind_case (suc n) t s last ih own (inr (f, gives)) h =
    let s' : FeederState = record { next = Some (f.serial + 1); given = Some f.serial } in
    let is = behind t s s' n f gives.given gives.after in
    let frames = sym (ap (λ (x : Feeding). last_serial s.given x.frames) is) ∙ h in
    ap (λ (x : Feeding). x.end) is ∙ ih s' n refl (λ k e. let same : f.serial ≡ k = cc in ap (λ (i : ℕ). record { next = Some (i + 1); given = Some i }) same) frames

pub end_behind : (n : ℕ) (t : TrackState) (s : FeederState) (last : ℕ) → IsBehindGiven s → last_serial s.given (feeding_from n s t).frames ≡ Some last → (feeding_from n s t).end ≡ next_answer (record { next = Some (last + 1); given = Some last }) t
end_behind zero t s last own h = behind_case zero t s last (λ s' m e k g. cc) own (still_or_given s t) h
end_behind (suc n) t s last own h =
    behind_case (suc n) t s last (λ s' m e k g. let same : n ≡ m = cc in subst (λ j. (feeding_from j s' t).end ≡ next_answer (record { next = Some (last + 1); given = Some last }) t) same (end_behind n t s' last k (subst (λ j. last_serial s'.given (feeding_from j s' t).frames ≡ Some last) (sym same) g))) own (still_or_given s t) h

-- after a seek no frame was given
none_given_yet : (fs : List Stored) (o : Option Stored) → (feeder_after_seek_to o fs).given ≡ None
none_given_yet fs None = refl
none_given_yet fs (Some wanted) = refl

behind_seek : (s : FeederState) → s.given ≡ None → IsBehindGiven s
behind_seek s e last h = (let clash = sym e ∙ h in cc)

pub answer_behind_last : (at : ℤ) (t : TrackState) (last : ℕ) → last_serial None (feeding at t).frames ≡ Some last → (feeding at t).end ≡ next_answer (record { next = Some (last + 1); given = Some last }) t
answer_behind_last at t last h =
    let s = feeder_after_seek at t.frames in
    let none = none_given_yet t.frames (overlapped at t.frames) in
    end_behind t.marks.received t s last (behind_seek s none) (ap (λ o. last_serial o (feeding at t).frames) none ∙ h)
