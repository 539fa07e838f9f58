-- A call on one slot keeps each frame of all slots within the duration, and lowers the steps that are left.
use Rattle.std.proofs.Common.{◌≡◌, ◌∙◌, ℕ, zero, suc, ◌+◌, ◌<◌, false, List, [], ◌∷◌, ◌++◌, refl, sym, ap, subst, arith}
use Rattle.std.specs.Prelude.{Option, Some, None, slice_get, slice_set, IfSome}
use Rattle.std.specs.Option.{option_flatten}
use Rattle.std.proofs.lemmas.List.Sums.{sum_by-cons}
use Rattle.mse_base.specs.declared.ticks.Moment.{Moment}
use Rattle.mse_base.specs.Moments.{IsNotAfter}
use Rattle.track_buffers.specs.Media.{Media}
use Rattle.track_buffers.proofs.Durations.{within_later, not_after_itself}
use Rattle.buffer_state.specs.declared.reply.Reply.{Reply}
use Rattle.buffer_state.specs.AllCalls.{CallView}
use Rattle.buffer_state.specs.State.{KeptBuffer}
use Rattle.source_buffers.specs.State.{KeptBuffers, kept_media, kept_running, all_kept_media, all_kept_running}
use Rattle.source_buffers.specs.All.{IsSlotWithin, IsSlotStillWithin, AreSlotsWithin, AreStillWithin, IsFewerSlot, IsIdleSlot, AreFewer, AreIdle, is_updating_slot, is_updating_at, slot_steps_left, all_steps_left, most_changes_in_slot, most_changes_of}

-- ---- within the duration

slot_later : (d e : Moment) (m : Option Media) → IsNotAfter d e → IsSlotWithin d m → IsSlotWithin e m
slot_later d e None later h = tt
slot_later d e (Some m) later h = within_later d e m.tracks later h

pub all_later : (d e : Moment) (ms : List (Option Media)) → IsNotAfter d e → AreSlotsWithin d ms → AreSlotsWithin e ms
all_later d e [] later all = tt
all_later d e (m ∷ ms) later all = (slot_later d e m later all.0, all_later d e ms later all.1)

slot_within : (d : Moment) (ks : KeptBuffers) (i : ℕ) (k : Option KeptBuffer) → AreSlotsWithin d (all_kept_media ks) → slice_get ks i ≡ Some k → IsSlotWithin d (kept_media k)
slot_within d [] i k all e = absurd cc
slot_within d (x ∷ ks) zero k all e = let same : x ≡ k = cc in subst (λ (z : Option KeptBuffer). IsSlotWithin d (kept_media z)) same all.0
slot_within d (x ∷ ks) (suc i) k all e = slot_within d ks i k all.1 e

set_within : (d : Moment) (ks : KeptBuffers) (i : ℕ) (k : Option KeptBuffer) → AreSlotsWithin d (all_kept_media ks) → IsSlotWithin d (kept_media k) → AreSlotsWithin d (all_kept_media (slice_set ks i k))
set_within d [] i k all h = tt
set_within d (x ∷ ks) zero k all h = (h, all.1)
set_within d (x ∷ ks) (suc i) k all h = (all.0, set_within d ks i k all.1 h)

pub stays_later : (ks : KeptBuffers) (i : ℕ) (d : Moment) (old new : Option KeptBuffer) (reply : Reply) → slice_get ks i ≡ Some old → IsNotAfter d reply.duration → IsSlotStillWithin d old reply new → AreStillWithin d ks reply (slice_set ks i new)
stays_later ks i d old new reply e later own all = set_within reply.duration ks i new (all_later d reply.duration (all_kept_media ks) later all) (own (slot_within d ks i old all e))

-- the duration is the same
pub not_after_same : (d e : Moment) → e ≡ d → IsNotAfter d e
not_after_same d e same = subst (λ (x : Moment). IsNotAfter d x) (sym same) (not_after_itself d)

pub stays : (ks : KeptBuffers) (i : ℕ) (d : Moment) (old new : Option KeptBuffer) (reply : Reply) → slice_get ks i ≡ Some old → reply.duration ≡ d → IsSlotStillWithin d old reply new → AreStillWithin d ks reply (slice_set ks i new)
stays ks i d old new reply e same own = stays_later ks i d old new reply e (not_after_same d reply.duration same) own

pub none_stays : (ks : KeptBuffers) (d : Moment) (reply : Reply) → reply.duration ≡ d → AreStillWithin d ks reply ks
none_stays ks d reply same all = subst (λ (x : Moment). AreSlotsWithin x (all_kept_media ks)) (sym same) all

pub turn_stays : (t : Option Reply) (ks : KeptBuffers) (i : ℕ) (d : Moment) (old new : Option KeptBuffer) → slice_get ks i ≡ Some old → IfSome t (λ reply. IsNotAfter d reply.duration) → IfSome t (λ reply. IsSlotStillWithin d old reply new) → IfSome t (λ reply. AreStillWithin d ks reply (slice_set ks i new))
turn_stays (Some reply) ks i d old new e later own = stays_later ks i d old new reply e later own
turn_stays None ks i d old new e later own = tt

-- one more buffer
pub within_more : (d : Moment) (ks : KeptBuffers) (k : Option KeptBuffer) → AreSlotsWithin d (all_kept_media ks) → IsSlotWithin d (kept_media k) → AreSlotsWithin d (all_kept_media (ks ++ k ∷ []))
within_more d [] k all h = (h, tt)
within_more d (x ∷ ks) k all h = (all.0, within_more d ks k all.1 h)

-- ---- what runs

pub updating_there : (ks : KeptBuffers) (i : ℕ) (k : Option KeptBuffer) → slice_get ks i ≡ Some k → is_updating_at i (all_kept_running ks) ≡ is_updating_slot (kept_running k)
updating_there [] i k e = absurd cc
updating_there (x ∷ ks) zero k e = let same : x ≡ k = cc in ap (λ (z : Option KeptBuffer). is_updating_slot (kept_running z)) same
updating_there (x ∷ ks) (suc i) k e = updating_there ks i k e

pub updating_none : (ks : KeptBuffers) (i : ℕ) → slice_get ks i ≡ None → is_updating_at i (all_kept_running ks) ≡ false
updating_none [] i e = refl
updating_none (x ∷ ks) zero e = absurd cc
updating_none (x ∷ ks) (suc i) e = updating_none ks i e

set_same : (ks : KeptBuffers) (i : ℕ) (k : Option KeptBuffer) → slice_get ks i ≡ Some k → slice_set ks i k ≡ ks
set_same [] i k e = refl
set_same (x ∷ ks) zero k e = let same : x ≡ k = cc in ap (λ (z : Option KeptBuffer). z ∷ ks) (sym same)
set_same (x ∷ ks) (suc i) k e = ap (λ (zs : KeptBuffers). x ∷ zs) (set_same ks i k e)

pub turn_idle : (t : Option Reply) (ks : KeptBuffers) (i : ℕ) (old new : Option KeptBuffer) → slice_get ks i ≡ Some old → IsIdleSlot t old new → AreIdle t i ks (slice_set ks i new)
turn_idle (Some reply) ks i old new e h = updating_there ks i old e ∙ h
turn_idle None ks i old new e h = (updating_there ks i old e ∙ h.0, ap (λ (z : Option KeptBuffer). slice_set ks i z) h.1 ∙ set_same ks i old e)

-- ---- steps that are left

fewer_at : (ks : KeptBuffers) (i : ℕ) (old new : Option KeptBuffer) → slice_get ks i ≡ Some old → slot_steps_left new < slot_steps_left old → all_steps_left (slice_set ks i new) < all_steps_left ks
fewer_at [] i old new e h = absurd cc
fewer_at (x ∷ ks) zero old new e h =
    let same : x ≡ old = cc in
    let less : slot_steps_left new < slot_steps_left x = subst (λ (z : Option KeptBuffer). slot_steps_left new < slot_steps_left z) (sym same) h in
    let after : all_steps_left (new ∷ ks) ≡ slot_steps_left new + all_steps_left ks = sum_by-cons slot_steps_left new ks in
    let before : all_steps_left (x ∷ ks) ≡ slot_steps_left x + all_steps_left ks = sum_by-cons slot_steps_left x ks in
    let fewer : all_steps_left (new ∷ ks) < all_steps_left (x ∷ ks) = omega (arith, less, after, before) in
    fewer
fewer_at (x ∷ ks) (suc i) old new e h =
    let rest = fewer_at ks i old new e h in
    let after : all_steps_left (x ∷ slice_set ks i new) ≡ slot_steps_left x + all_steps_left (slice_set ks i new) = sum_by-cons slot_steps_left x (slice_set ks i new) in
    let before : all_steps_left (x ∷ ks) ≡ slot_steps_left x + all_steps_left ks = sum_by-cons slot_steps_left x ks in
    let fewer : all_steps_left (x ∷ slice_set ks i new) < all_steps_left (x ∷ ks) = omega (arith, rest, after, before) in
    fewer

pub turn_fewer : (t : Option Reply) (ks : KeptBuffers) (i : ℕ) (old new : Option KeptBuffer) → slice_get ks i ≡ Some old → IsFewerSlot t old new → AreFewer t ks (slice_set ks i new)
turn_fewer (Some reply) ks i old new e h = fewer_at ks i old new e h
turn_fewer None ks i old new e h = tt

-- how often a call changes the duration at most
pub most_there : (ks : KeptBuffers) (i : ℕ) (call : CallView) (k : Option KeptBuffer) → slice_get ks i ≡ Some k → most_changes_of i call ks ≡ most_changes_in_slot call k
most_there ks i call k e = ap (λ (o : Option (Option KeptBuffer)). most_changes_in_slot call (option_flatten o)) e
