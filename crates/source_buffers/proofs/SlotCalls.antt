-- What a call on one slot has done, or a step of its work, it has done at all slots.
use Rattle.std.proofs.Common.{◌≡◌, ◌∙◌, ℕ, ◌≤◌, false, refl, sym, ap, subst, arith}
use Rattle.std.specs.Prelude.{Option, Some, None, slice_get, slice_set, Result, Ok, Err, IfOk, IfSome}
use Rattle.mse_base.specs.declared.ticks.Moment.{Moment}
use Rattle.mse_calls.specs.declared.answers.Name.{Name}
use Rattle.mse_calls.specs.declared.answers.Name.TheVariants.{NoSuchBuffer}
use Rattle.mse_base.specs.Moments.{IsNotAfter}
use Rattle.buffer_state.specs.declared.reply.Reply.{Reply}
use Rattle.buffer_state.specs.declared.reply.Turned.{Turned}
use Rattle.buffer_state.specs.State.{KeptBuffer, Surroundings}
use Rattle.buffer_state.specs.StepsLeft.{IsFewer, IsIdle}
use Rattle.buffer_state.specs.Replies.{IsDone, IsStillWithin, IsTurnIfOk, HasRangesAfterInit, changes_of, refused_reply, reply_of}
use Rattle.buffer_state.specs.Calls.{end_work_result}
use Rattle.buffer_state.specs.AllCalls.{CallView, IsCallDone, removed_name}
use Rattle.buffer_state.specs.Turns.{turn_result}
use Rattle.source_buffers.specs.State.{BufferState, KeptBuffers}
use Rattle.source_buffers.specs.Slots.{SlotResult, call_in_slot, removal_in_slot, result_on_slot}
use Rattle.source_buffers.specs.All.{IsFewerSlot, IsIdleSlot, IsSlotStillWithin, most_changes_in_slot}
use Rattle.source_buffers.specs.Buffered.{AreSlotRangesLeft}
use Rattle.source_buffers.specs.Done.{IsCallDoneInAll, IsCallDoneInSlot, IsDoneInAll, IsDoneInSlot, IsTurnDoneInAll, IsTurnDoneInSlot}
use Rattle.source_buffers.proofs.InitRanges.{turn_leaves}
use Rattle.source_buffers.proofs.SlotStates.{empty_answers, empty_turn, full_answers, full_removal, full_turn, none_answers, none_turn, slot_answers, slot_turn}
use Rattle.source_buffers.proofs.SlotDurations.{most_there, none_stays, not_after_same, stays_later, turn_fewer, turn_idle, turn_stays, updating_none}

-- ---- in a slot

pub done_there : (reply : Reply) (old new : KeptBuffer) (call : CallView) (a : Surroundings) → IsCallDone call a old reply new → IsCallDoneInSlot call a (Some old) reply (Some new)
done_there reply old new call a done = record {
  answered = full_answers reply old new call a done;
  within_duration = done.within_duration;
  changes = done.changes;
  unchanged = done.unchanged;
  no_fall = done.no_fall;
  no_init = done.no_init;
}

-- a refusal has no effect
refused_there : (reply : Reply) (name : Name) (most : ℕ) (d : Moment) (meant : Option BufferState → SlotResult) → reply ≡ refused_reply name false d → (meant None).reply ≡ refused_reply name false d → (meant None).slot ≡ None → IsDoneInSlot meant most d None reply None
refused_there reply name most d meant is answer none =
    let same : reply.duration ≡ d = ap (λ (r : Reply). r.duration) is in
    let unchanged : reply.duration_changes ≡ 0 = ap (λ (r : Reply). r.duration_changes) is in
    record {
      answered = empty_answers reply meant (is ∙ sym answer) none;
      within_duration = λ h. tt;
      changes = omega (arith, unchanged);
      unchanged = λ e. same;
      no_fall = not_after_same d reply.duration same;
      no_init = ap (λ (r : Reply). r.received_init) is;
    }

pub call_refused : (reply : Reply) (name : Name) (call : CallView) (a : Surroundings) → name ≡ removed_name call → reply ≡ refused_reply name false a.duration → IsCallDoneInSlot call a None reply None
call_refused reply name call a named is = refused_there reply (removed_name call) 0 a.duration (call_in_slot call a) (is ∙ ap (λ (n : Name). refused_reply n false a.duration) named) refl refl

pub removal_there : (reply : Reply) (old new : KeptBuffer) (a : Surroundings) → IsDone (end_work_result a) 0 a.duration old reply new → IsDoneInSlot (removal_in_slot a) 0 a.duration (Some old) reply None
removal_there reply old new a done = record {
  answered = full_removal reply old new a done.answered;
  within_duration = λ h. tt;
  changes = done.changes;
  unchanged = done.unchanged;
  no_fall = done.no_fall;
  no_init = done.no_init;
}

pub removal_refused : (reply : Reply) (name : Name) (a : Surroundings) → (removal_in_slot a None).reply ≡ refused_reply name false a.duration → reply ≡ refused_reply name false a.duration → IsDoneInSlot (removal_in_slot a) 0 a.duration None reply None
removal_refused reply name a named is = refused_there reply name 0 a.duration (removal_in_slot a) is named refl

idle_in : (t : Option Reply) (old new : KeptBuffer) → IsIdle t old new → IsIdleSlot t (Some old) (Some new)
idle_in (Some reply) old new h = h
idle_in None old new h = (h.0, ap (λ (k : KeptBuffer). Some k) h.1)

fewer_in : (t : Option Reply) (old new : KeptBuffer) → IsFewer t old new → IsFewerSlot t (Some old) (Some new)
fewer_in (Some reply) old new h = h
fewer_in None old new h = tt

within_in : (t : Option Reply) (old new : KeptBuffer) (d : Moment) → IfSome t (λ reply. IsStillWithin d old.media reply new.media) → IfSome t (λ reply. IsSlotStillWithin d (Some old) reply (Some new))
within_in (Some reply) old new d h = h
within_in None old new d h = tt

ranges_in : (t : Option Reply) (old new : KeptBuffer) → IfSome t (λ reply. HasRangesAfterInit old.media reply new.media) → IfSome t (λ reply. AreSlotRangesLeft (Some old) reply (Some new))
ranges_in (Some reply) old new h = h
ranges_in None old new h = tt

pub turned_there : {E : Type 0} (r : Result Turned E) (made : Reply) (old new : KeptBuffer) (a : Surroundings) → IsTurnIfOk a.duration made old r new (turn_result a) → IfOk r (λ t. IsIdle (reply_of a.duration made t) old new) → IfOk r (λ t. IsFewer (reply_of a.duration made t) old new) → IfOk r (λ t. changes_of (reply_of a.duration made t) ≤ 1)
    → IfOk r (λ t. IfSome (reply_of a.duration made t) (λ reply. IsStillWithin a.duration old.media reply new.media)) → IfOk r (λ t. IfSome (reply_of a.duration made t) (λ reply. IsNotAfter a.duration reply.duration)) → IfOk r (λ t. IfSome (reply_of a.duration made t) (λ reply. HasRangesAfterInit old.media reply new.media))
    → IfOk r (λ t. IsTurnDoneInSlot a (Some old) (reply_of a.duration made t) (Some new))
turned_there (Ok t) made old new a turned idle fewer changes within fall ranges = record {
  turned_as = full_turn (reply_of a.duration made t) old new a turned;
  idle = idle_in (reply_of a.duration made t) old new idle;
  fewer = fewer_in (reply_of a.duration made t) old new fewer;
  changes = changes;
  within_duration = within_in (reply_of a.duration made t) old new a.duration within;
  no_fall = fall;
  ranges = ranges_in (reply_of a.duration made t) old new ranges;
}
turned_there (Err e) made old new a turned idle fewer changes within fall ranges = tt

pub nothing_there : (a : Surroundings) → IsTurnDoneInSlot a None None None
nothing_there a = record { turned_as = empty_turn a; idle = (refl, refl); fewer = tt; changes = omega arith; within_duration = tt; no_fall = tt; ranges = tt }

-- ---- in all slots

pub done_in_all : (ks : KeptBuffers) (i : ℕ) (old new : Option KeptBuffer) (reply : Reply) (meant : Option BufferState → SlotResult) (most : ℕ) (d : Moment) → slice_get ks i ≡ Some old → IsDoneInSlot meant most d old reply new
    → IsDoneInAll (result_on_slot i d meant) most d ks reply (slice_set ks i new)
done_in_all ks i old new reply meant most d there done = record {
  answered = slot_answers ks i d old new reply meant there done.answered;
  within_duration = stays_later ks i d old new reply there done.no_fall done.within_duration;
  changes = done.changes;
  unchanged = done.unchanged;
  no_fall = done.no_fall;
  no_init = done.no_init;
}

pub call_in_all : (ks : KeptBuffers) (i : ℕ) (old new : Option KeptBuffer) (reply : Reply) (call : CallView) (a : Surroundings) → slice_get ks i ≡ Some old → IsCallDoneInSlot call a old reply new → IsCallDoneInAll i call a ks reply (slice_set ks i new)
call_in_all ks i old new reply call a there done =
    subst (λ (most : ℕ). IsDoneInAll (result_on_slot i a.duration (call_in_slot call a)) most a.duration ks reply (slice_set ks i new)) (sym (most_there ks i call old there)) (done_in_all ks i old new reply (call_in_slot call a) (most_changes_in_slot call old) a.duration there done)

-- where none was made
pub none_in_all : (ks : KeptBuffers) (i : ℕ) (reply : Reply) (meant : Option BufferState → SlotResult) (most : ℕ) (d : Moment) → slice_get ks i ≡ None → reply ≡ refused_reply NoSuchBuffer false d → IsDoneInAll (result_on_slot i d meant) most d ks reply ks
none_in_all ks i reply meant most d none is =
    let same : reply.duration ≡ d = ap (λ (r : Reply). r.duration) is in
    let unchanged : reply.duration_changes ≡ 0 = ap (λ (r : Reply). r.duration_changes) is in
    record {
      answered = none_answers ks i d reply meant none is;
      within_duration = none_stays ks d reply same;
      changes = omega (arith, unchanged);
      unchanged = λ e. same;
      no_fall = not_after_same d reply.duration same;
      no_init = ap (λ (r : Reply). r.received_init) is;
    }

pub turn_in_all : (ks : KeptBuffers) (i : ℕ) (old new : Option KeptBuffer) (t : Option Reply) (a : Surroundings) → slice_get ks i ≡ Some old → IsTurnDoneInSlot a old t new → IsTurnDoneInAll i a ks t (slice_set ks i new)
turn_in_all ks i old new t a there done = record {
  turned_as = slot_turn t ks i a old new there done.turned_as;
  idle = turn_idle t ks i old new there done.idle;
  fewer = turn_fewer t ks i old new there done.fewer;
  changes = done.changes;
  within_duration = turn_stays t ks i a.duration old new there done.no_fall done.within_duration;
  no_fall = done.no_fall;
  ranges = turn_leaves t ks i old new there done.ranges;
}

pub nothing_in_all : (ks : KeptBuffers) (i : ℕ) (a : Surroundings) → slice_get ks i ≡ None → IsTurnDoneInAll i a ks None ks
nothing_in_all ks i a none = record { turned_as = none_turn ks i a none; idle = (updating_none ks i none, refl); fewer = tt; changes = omega arith; within_duration = tt; no_fall = tt; ranges = tt }
