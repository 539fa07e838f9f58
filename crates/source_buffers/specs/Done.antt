-- What a call on the source buffer of a number has done, or a step of its work, for whatever buffers were stood for: in
-- its slot, and in all of them.
use Rattle.std.specs.Prelude.{◌≡◌, ℕ, ◌≤◌, false, Option, IfSome}
use Rattle.mse_base.specs.declared.ticks.Moment.{Moment}
use Rattle.mse_base.specs.Moments.{IsNotAfter}
use Rattle.buffer_state.specs.declared.reply.Reply.{Reply}
use Rattle.buffer_state.specs.AllCalls.{CallView}
use Rattle.buffer_state.specs.Replies.{changes_of}
use Rattle.buffer_state.specs.State.{KeptBuffer, Surroundings}
use Rattle.source_buffers.specs.State.{BufferState, BufferStates, KeptBuffers, IsSlotStanding, AreSlotsStanding}
use Rattle.source_buffers.specs.Slots.{SlotResult, BuffersResult, IsSlotAnswer, IsBuffersAnswer, IsSlotTurn, IsBuffersTurn, call_in_slot, turn_in_slot, result_on_buffer, buffers_turn}
use Rattle.source_buffers.specs.All.{IsSlotStillWithin, AreStillWithin, IsFewerSlot, AreFewer, IsIdleSlot, AreIdle, most_changes_in_slot, most_changes_of}
use Rattle.source_buffers.specs.Buffered.{AreSlotRangesLeft, AreRangesAfterInit}

-- ---- a call

-- A call changes the duration at most so often: it answered what is meant, the duration did not fall, and no
-- initialization segment was received.
pub record IsDoneInSlot (meant : Option BufferState → SlotResult) (most : ℕ) (duration : Moment)
    (old : Option KeptBuffer) (reply : Reply) (new : Option KeptBuffer) : Type 0 where
  pub answered : IsSlotAnswer old reply new meant
  pub within_duration : IsSlotStillWithin duration old reply new
  pub changes : reply.duration_changes ≤ most
  pub unchanged : most ≡ 0 → reply.duration ≡ duration
  pub no_fall : IsNotAfter duration reply.duration
  pub no_init : reply.received_init ≡ false

abbrev pub IsCallDoneInSlot : CallView → Surroundings → Option KeptBuffer → Reply
    → Option KeptBuffer → Type 0
IsCallDoneInSlot call a old reply new =
    IsDoneInSlot (call_in_slot call a) (most_changes_in_slot call old) a.duration old reply new

-- the same of all slots
pub record IsDoneInAll (meant : BufferStates → BuffersResult) (most : ℕ) (duration : Moment)
    (old : KeptBuffers) (reply : Reply) (new : KeptBuffers) : Type 0 where
  pub answered : IsBuffersAnswer old reply new meant
  pub within_duration : AreStillWithin duration old reply new
  pub changes : reply.duration_changes ≤ most
  pub unchanged : most ≡ 0 → reply.duration ≡ duration
  pub no_fall : IsNotAfter duration reply.duration
  pub no_init : reply.received_init ≡ false

abbrev pub IsCallDoneInAll : ℕ → CallView → Surroundings → KeptBuffers → Reply → KeptBuffers
    → Type 0
IsCallDoneInAll k call a old reply new =
    IsDoneInAll (result_on_buffer k call a) (most_changes_of k call old) a.duration old reply new

-- ---- a step of work

-- A step, if something ran: it did what is meant, fewer are left, the duration was raised at most once, and an
-- initialization segment that was received left the ranges.
pub record IsTurnDoneInSlot (a : Surroundings) (old : Option KeptBuffer) (turned : Option Reply)
    (new : Option KeptBuffer) : Type 0 where
  pub turned_as : (s : Option BufferState) → IsSlotStanding old s
      → IsSlotTurn turned new (turn_in_slot a s)
  pub idle : IsIdleSlot turned old new
  pub fewer : IsFewerSlot turned old new
  pub changes : changes_of turned ≤ 1
  pub within_duration : IfSome turned (λ reply. IsSlotStillWithin a.duration old reply new)
  pub no_fall : IfSome turned (λ reply. IsNotAfter a.duration reply.duration)
  pub ranges : IfSome turned (λ reply. AreSlotRangesLeft old reply new)

-- the same of all slots, at the buffer of a number
pub record IsTurnDoneInAll (k : ℕ) (a : Surroundings) (old : KeptBuffers) (turned : Option Reply)
    (new : KeptBuffers) : Type 0 where
  pub turned_as : (bs : BufferStates) → AreSlotsStanding old bs
      → IsBuffersTurn turned new (buffers_turn k a bs)
  pub idle : AreIdle turned k old new
  pub fewer : AreFewer turned old new
  pub changes : changes_of turned ≤ 1
  pub within_duration : IfSome turned (λ reply. AreStillWithin a.duration old reply new)
  pub no_fall : IfSome turned (λ reply. IsNotAfter a.duration reply.duration)
  pub ranges : IfSome turned (λ reply. AreRangesAfterInit k old reply new)
