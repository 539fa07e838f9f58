-- A call on the source buffer of a number, or a step of its work: what it answers, and all source buffers behind it.
use Rattle.std.specs.Prelude.{◌≡◌, ℕ, false, slice_get, slice_set, Option, Some, None}
use Rattle.mse_base.specs.declared.ticks.Moment.{Moment}
use Rattle.mse_calls.specs.declared.answers.Name.{Name}
use Rattle.mse_calls.specs.declared.answers.Name.TheVariants.{NotFound, NoSuchBuffer}
use Rattle.buffer_state.specs.declared.reply.Reply.{Reply}
use Rattle.buffer_state.specs.AllCalls.{CallView, refusal_of_call, removed_name, result_of_call}
use Rattle.buffer_state.specs.State.{KeptBuffer, Surroundings}
use Rattle.buffer_state.specs.Replies.{CallResult, refused_reply}
use Rattle.buffer_state.specs.Turns.{turn_result}
use Rattle.buffer_state.specs.Calls.{end_work_result}
use Rattle.source_buffers.specs.State.{BufferState, BufferStates, KeptBuffers, IsSlotStanding, AreSlotsStanding}

-- ---- one slot

pub record SlotResult : Type 0 where
  pub reply : Reply
  pub slot : Option BufferState

abbrev pub slot_with : CallResult → SlotResult
slot_with r = record {
  reply = r.reply;
  slot = Some (record { feed = r.feed; content = r.content });
}

abbrev pub empty_slot : Reply → SlotResult
empty_slot reply = record { reply = reply; slot = None }

-- a call on a buffer; where the buffer was removed the call is refused by a name
abbrev pub call_in_slot : CallView → Surroundings → Option BufferState → SlotResult
call_in_slot call a None = empty_slot (refused_reply (removed_name call) false a.duration)
call_in_slot call a (Some b) = slot_with (result_of_call call a b.feed b.content)

-- removeSourceBuffer (Media Source Extensions, 2.2): work that runs is aborted, and the buffer goes; one that has gone
-- is not found
abbrev pub removal_in_slot : Surroundings → Option BufferState → SlotResult
removal_in_slot a None = empty_slot (refused_reply NotFound false a.duration)
removal_in_slot a (Some b) = empty_slot (end_work_result a b.feed b.content).reply

-- one step of running work, or none where nothing runs
abbrev pub slot_turn_of : Option CallResult → Option SlotResult
slot_turn_of None = None
slot_turn_of (Some r) = Some (slot_with r)

abbrev pub turn_in_slot : Surroundings → Option BufferState → Option SlotResult
turn_in_slot a None = None
turn_in_slot a (Some b) = slot_turn_of (turn_result a b.feed b.content)

-- ---- refusals of a call before anything comes of it, of what is in one slot

abbrev pub refusal_in_slot : CallView → Surroundings → Option BufferState → Option Name
refusal_in_slot call a None = Some (removed_name call)
refusal_in_slot call a (Some b) = refusal_of_call call a b.feed b.content

abbrev pub removal_refusal_in_slot : Option BufferState → Option Name
removal_refusal_in_slot None = Some NotFound
removal_refusal_in_slot (Some b) = None

-- ---- all slots

pub record BuffersResult : Type 0 where
  pub reply : Reply
  pub buffers : BufferStates

abbrev pub buffers_with : ℕ → BufferStates → SlotResult → BuffersResult
buffers_with k bs r = record { reply = r.reply; buffers = slice_set bs k r.slot }

-- a refusal, by which nothing changes
abbrev pub refused_buffers : Name → Moment → BufferStates → BuffersResult
refused_buffers name d bs = record { reply = refused_reply name false d; buffers = bs }

abbrev pub result_by_slot : Option (Option BufferState) → (Option BufferState → SlotResult) → Moment
    → ℕ → BufferStates → BuffersResult
result_by_slot None call d k bs = refused_buffers NoSuchBuffer d bs
result_by_slot (Some s) call d k bs = buffers_with k bs (call s)

-- a call on the slot of a number; where no buffer was ever made with it the call is refused
abbrev pub result_on_slot : ℕ → Moment → (Option BufferState → SlotResult) → BufferStates
    → BuffersResult
result_on_slot k d call bs = result_by_slot (slice_get bs k) call d k bs

-- a call on the buffer of a number; where it was removed the call is refused too
abbrev pub result_on_buffer : ℕ → CallView → Surroundings → BufferStates → BuffersResult
result_on_buffer k call a bs = result_on_slot k a.duration (call_in_slot call a) bs

abbrev pub removal_result : ℕ → Surroundings → BufferStates → BuffersResult
removal_result k a bs = result_on_slot k a.duration (removal_in_slot a) bs

abbrev pub refusal_by_slot : Option (Option BufferState) → (Option BufferState → Option Name)
    → Option Name
refusal_by_slot None refusal = Some NoSuchBuffer
refusal_by_slot (Some s) refusal = refusal s

-- the name by which a call on the slot of a number is refused before anything comes of it, if it is
abbrev pub refusal_on_slot : ℕ → (Option BufferState → Option Name) → BufferStates → Option Name
refusal_on_slot k refusal bs = refusal_by_slot (slice_get bs k) refusal

-- the same of a call on the buffer of a number
abbrev pub refusal_on_buffer : ℕ → CallView → Surroundings → BufferStates → Option Name
refusal_on_buffer k call a bs = refusal_on_slot k (refusal_in_slot call a) bs

abbrev pub buffers_turn_of : ℕ → BufferStates → Option SlotResult → Option BuffersResult
buffers_turn_of k bs None = None
buffers_turn_of k bs (Some r) = Some (buffers_with k bs r)

abbrev pub turn_by_slot : Option (Option BufferState) → ℕ → Surroundings → BufferStates
    → Option BuffersResult
turn_by_slot None k a bs = None
turn_by_slot (Some s) k a bs = buffers_turn_of k bs (turn_in_slot a s)

-- one step of the work of the buffer of a number, or none where nothing runs there
abbrev pub buffers_turn : ℕ → Surroundings → BufferStates → Option BuffersResult
buffers_turn k a bs = turn_by_slot (slice_get bs k) k a bs

-- ---- the code and this

-- the reply is the one that is meant, and what is kept stands for the state that is meant
pub record IsSlotResult (reply : Reply) (kept : Option KeptBuffer)
    (result : SlotResult) : Type 0 where
  pub replies : reply ≡ result.reply
  pub stands : IsSlotStanding kept result.slot

pub record IsBuffersResult (reply : Reply) (kept : KeptBuffers)
    (result : BuffersResult) : Type 0 where
  pub replies : reply ≡ result.reply
  pub stand : AreSlotsStanding kept result.buffers

-- for whatever the slot stood for
abbrev pub IsSlotAnswer : Option KeptBuffer → Reply → Option KeptBuffer
    → (Option BufferState → SlotResult)
    → Type 0
IsSlotAnswer old reply new call =
    (s : Option BufferState) → IsSlotStanding old s → IsSlotResult reply new (call s)

-- for whatever buffers all slots stood for
abbrev pub IsBuffersAnswer : KeptBuffers → Reply → KeptBuffers → (BufferStates → BuffersResult)
    → Type 0
IsBuffersAnswer old reply new call =
    (bs : BufferStates) → AreSlotsStanding old bs → IsBuffersResult reply new (call bs)

-- something ran, or nothing did
abbrev pub IsSlotTurn : Option Reply → Option KeptBuffer → Option SlotResult → Type 0
IsSlotTurn (Some reply) kept None = ⊥
IsSlotTurn (Some reply) kept (Some result) = IsSlotResult reply kept result
IsSlotTurn None kept None = Unit {0}
IsSlotTurn None kept (Some result) = ⊥

abbrev pub IsBuffersTurn : Option Reply → KeptBuffers → Option BuffersResult → Type 0
IsBuffersTurn (Some reply) kept None = ⊥
IsBuffersTurn (Some reply) kept (Some result) = IsBuffersResult reply kept result
IsBuffersTurn None kept None = Unit {0}
IsBuffersTurn None kept (Some result) = ⊥
