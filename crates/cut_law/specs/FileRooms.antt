-- A source buffer that holds little enough for the rest of a file.
use Rattle.std.specs.Prelude.{◌≡◌, ℕ, ◌≤◌, ◌<◌, ◌^◌, length, None, IfSome}
use Rattle.mse_calls.specs.declared.calls.Piece.{Piece}
use Rattle.track_buffers.specs.Frames.{used_in}
use Rattle.source_buffers.specs.State.{BufferState, in_slot}
use Rattle.mse_engine.specs.State.{Core, State, core_of}
use Rattle.mse_engine.specs.Work.{running_in}

-- it read no more than so many bytes, and the bytes of its coded frames can be counted
pub record IsHeldBefore (start : ℕ) (b : BufferState) : Type 0 where
  pub read : length b.feed.reading.string.whole ≤ start
  pub used : used_in b.content.media < 2 ^ 62

-- so does the buffer of a number, if there is one, and the quota is not met by what can be counted
pub record HasRoomForFile (start k : ℕ) (c : Core) : Type 0 where
  pub quota : 2 ^ 62 ≤ c.source.quota
  pub slot : IfSome (in_slot k c.buffers) (IsHeldBefore start)

-- nothing runs, there was no fault and no error, and the buffer of a number has received nothing
pub record IsFresh (k : ℕ) (st : State) : Type 0 where
  pub running : running_in st ≡ None
  pub fault : st.source.fault ≡ None
  pub error : (core_of st).source.error ≡ 0
  pub little : HasRoomForFile 0 k (core_of st)

-- the whole of a blob
abbrev pub whole_of : ℕ → Piece
whole_of blob = record { blob = blob; part = None }
