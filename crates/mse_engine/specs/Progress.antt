-- How much can still come by itself, so that a drain, in which no call is made, ends.
use Rattle.std.specs.Prelude.{◌≡◌, ℕ, suc, ◌+◌, ◌<◌, Bool, true, false, [], ◌∷◌, length, Option, Some, None}
use Rattle.byte_stream.specs.Readings.{items_ahead}
use Rattle.buffer_state.specs.declared.running.Running.{Running}
use Rattle.buffer_state.specs.declared.running.Running.TheVariants.{Nothing, Append, Removal}
use Rattle.buffer_state.specs.State.{Feed}
use Rattle.source_buffers.specs.State.{BufferState, BufferStates}
use Rattle.mse_engine.specs.State.{State}

-- ---- steps of running work

-- an append has a step for each item that was not given yet, and one for its end; a removal is one step
abbrev pub work_left_by : Running → Feed → ℕ
work_left_by Nothing f = 0
work_left_by Append f = suc (length (items_ahead f.reading))
work_left_by (Removal start end) f = 1

abbrev pub slot_work_left : Option BufferState → ℕ
slot_work_left None = 0
slot_work_left (Some b) = work_left_by b.feed.running b.feed

abbrev pub work_left : BufferStates → ℕ
work_left [] = 0
work_left (b ∷ bs) = slot_work_left b + work_left bs

-- ---- turns of the element

-- a seek may be completed, and then the end of playback told: by whether the element is seeking, and has told it
abbrev pub turns_left : Bool → Bool → ℕ
turns_left true finished = 2
turns_left false true = 0
turns_left false false = 1

-- ---- of a state

abbrev pub work_left_in : State → ℕ
work_left_in st = work_left st.buffers

abbrev pub turns_left_in : State → ℕ
turns_left_in st = turns_left st.element.player.seeking st.element.player.finished

-- ---- each step

-- a step of running work leaves less work
abbrev pub IsLessWork : State → State → Type 0
IsLessWork old new = work_left_in new < work_left_in old

-- a turn of the element leaves the work, and fewer turns
pub record IsFewerTurns (old new : State) : Type 0 where
  pub work : work_left_in new ≡ work_left_in old
  pub turns : turns_left_in new < turns_left_in old

-- an event that is fired leaves the work and the turns, and is no longer in the queue
pub record IsOneEventLess (old new : State) : Type 0 where
  pub work : work_left_in new ≡ work_left_in old
  pub turns : turns_left_in new ≡ turns_left_in old
  pub events : length new.element.queue + 1 ≡ length old.element.queue
