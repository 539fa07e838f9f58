-- The quota is not met: no buffer is full just before an append to it (Media Source Extensions, 3.5.4, prepare append,
-- "buffer full flag"), so that no coded frame is evicted.
use Rattle.std.specs.Prelude.{◌≡◌, ℕ, false, List, [], ◌∷◌, Option, Some, None}
use Rattle.mse_calls.specs.declared.calls.Call.{Call}
use Rattle.mse_calls.specs.declared.calls.Call.TheVariants.{AppendBuffer}
use Rattle.mse_calls.specs.declared.entry.Entry.{Entry}
use Rattle.mse_calls.specs.declared.entry.Entry.TheVariants as entry
use Rattle.mse_calls.specs.Pieces.{bytes_of}
use Rattle.call_script.specs.declared.script.StepLine.{StepLine}
use Rattle.call_script.specs.declared.script.StepLine.TheVariants as step
use Rattle.buffer_state.specs.Calls.{is_full}
use Rattle.source_buffers.specs.State.{BufferState, in_slot}
use Rattle.mse_engine.specs.State.{Core, State, core_of}
use Rattle.cut_law.specs.Plays.{after_line}

-- the buffer is not full; nothing is asked where there are no such bytes or no such buffer, since the call is refused
abbrev pub HasRoomFor : Option (List ℕ) → ℕ → Option BufferState → Type 0
HasRoomFor None quota b = Unit {0}
HasRoomFor (Some bytes) quota None = Unit {0}
HasRoomFor (Some bytes) quota (Some b) = is_full bytes quota b.feed b.content.media ≡ false

abbrev pub HasRoomForCall : List (List ℕ) → Core → Call → Type 0
HasRoomForCall blobs c (AppendBuffer k piece) =
    HasRoomFor (bytes_of blobs piece) c.source.quota (in_slot k c.buffers)
HasRoomForCall blobs c other = Unit {0}

-- an entry that is a call, and a line that is one
abbrev pub HasRoomForEntry : List (List ℕ) → Core → Entry → Type 0
HasRoomForEntry blobs c (entry.Script made answer) = HasRoomForCall blobs c made
HasRoomForEntry blobs c (entry.Listener w made answer) = HasRoomForCall blobs c made
HasRoomForEntry blobs c other = Unit {0}

abbrev pub HasRoomForLine : List (List ℕ) → Core → StepLine → Type 0
HasRoomForLine blobs c (step.Call made) = HasRoomForCall blobs c made
HasRoomForLine blobs c other = Unit {0}

-- just before each append of these lines its buffer is not full
abbrev pub IsUnmet : List (List ℕ) → State → List StepLine → Type 0
IsUnmet blobs st [] = Unit {0}
IsUnmet blobs st (line ∷ lines) =
    HasRoomForLine blobs (core_of st) line × IsUnmet blobs (after_line blobs st line) lines
