-- A file that is appended piece by piece, up to the first fault.
use Rattle.std.specs.Prelude.{ℕ, List, [], ◌∷◌, Option, Some, None}
use Rattle.mse_calls.specs.declared.calls.Call.TheVariants.{AppendBuffer}
use Rattle.mse_calls.specs.declared.calls.Piece.{Piece}
use Rattle.mse_calls.specs.declared.views.FaultView.{FaultView}
use Rattle.call_script.specs.declared.script.StepLine.TheVariants.{Call, Drain}
use Rattle.mse_engine.specs.State.{State, core_of}
use Rattle.cut_law.specs.Plays.{after_line}
use Rattle.cut_law.specs.Room.{HasRoomForCall}

-- a piece is appended to the buffer of a number, and drained
abbrev pub after_piece : List (List ℕ) → ℕ → State → Piece → State
after_piece blobs k st piece =
    after_line blobs (after_line blobs st (Call (AppendBuffer k piece))) Drain

-- behind a fault nothing is done
abbrev pub unless_fault : {A : Type 0} → Option FaultView → A → A → A
unless_fault None stopped next = next
unless_fault (Some fault) stopped next = stopped

-- one piece after another
abbrev pub after_pieces : List (List ℕ) → ℕ → State → List Piece → State
after_pieces blobs k st [] = st
after_pieces blobs k st (piece ∷ pieces) =
    unless_fault st.source.fault st
    (after_pieces blobs k (after_piece blobs k st piece) pieces)

abbrev pub IfNoFault : Option FaultView → Type 0 → Type 0
IfNoFault None P = P
IfNoFault (Some fault) P = Unit {0}

-- just before each piece that is appended the buffer is not full
abbrev pub IsRoomBeforeEach : List (List ℕ) → ℕ → State → List Piece → Type 0
IsRoomBeforeEach blobs k st [] = Unit {0}
IsRoomBeforeEach blobs k st (piece ∷ pieces) =
    IfNoFault st.source.fault
    (HasRoomForCall blobs (core_of st) (AppendBuffer k piece)
    × IsRoomBeforeEach blobs k (after_piece blobs k st piece) pieces)
