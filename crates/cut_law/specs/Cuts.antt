-- A script that appends a piece at once, and one that appends it in parts.
use Rattle.std.specs.Prelude.{◌≡◌, ◌≢◌, ℕ, List, [], ◌∷◌, ◌++◌, Option, Some, None, IsSome}
use Rattle.mse_calls.specs.Pieces.{bytes_of}
use Rattle.mse_calls.specs.declared.calls.Call.TheVariants.{AppendBuffer}
use Rattle.mse_calls.specs.declared.calls.Piece.{Piece}
use Rattle.call_script.specs.declared.script.StepLine.{StepLine}
use Rattle.call_script.specs.declared.script.StepLine.TheVariants.{Call, Drain}
use Rattle.mse_engine.specs.State.{State}
use Rattle.mse_engine.specs.Work.{running_in}
use Rattle.cut_law.specs.Plays.{play_of}
use Rattle.cut_law.specs.Room.{IsUnmet}

-- ---- the bytes of parts

abbrev pub joined_bytes : Option (List ℕ) → Option (List ℕ) → Option (List ℕ)
joined_bytes None more = None
joined_bytes (Some bytes) None = None
joined_bytes (Some bytes) (Some more) = Some (bytes ++ more)

-- the bytes of pieces, one piece behind the other, where each lies inside its blob
abbrev pub bytes_of_pieces : List (List ℕ) → List Piece → Option (List ℕ)
bytes_of_pieces blobs [] = Some []
bytes_of_pieces blobs (piece ∷ pieces) = joined_bytes (bytes_of blobs piece) (bytes_of_pieces blobs pieces)

-- The piece lies inside its blob, and the parts, of which there is at least one, have together just its bytes.
pub record IsInParts (blobs : List (List ℕ)) (piece : Piece) (parts : List Piece) : Type 0 where
  pub inside : IsSome (bytes_of blobs piece)
  pub some : parts ≢ []
  pub together : bytes_of_pieces blobs parts ≡ bytes_of blobs piece

-- ---- scripts

-- the lines that append pieces to the source buffer of a number, with a drain behind each
abbrev pub append_lines : ℕ → List Piece → List StepLine
append_lines k [] = []
append_lines k (piece ∷ pieces) = Call (AppendBuffer k piece) ∷ Drain ∷ append_lines k pieces

-- where a script appends a piece, or the piece in parts: the lines before that, and those behind it
pub record Cut : Type 0 where
  pub front : List StepLine
  pub buffer : ℕ
  pub piece : Piece
  pub parts : List Piece
  pub back : List StepLine

-- the script that appends these pieces there
abbrev pub script_with : List Piece → Cut → List StepLine
script_with pieces cut = cut.front ++ (append_lines cut.buffer pieces ++ cut.back)

abbrev pub whole_script : Cut → List StepLine
whole_script cut = script_with (cut.piece ∷ []) cut

abbrev pub cut_script : Cut → List StepLine
cut_script cut = script_with cut.parts cut

-- no append and no removal runs behind these lines
abbrev pub IsAwaited : List (List ℕ) → State → List StepLine → Type 0
IsAwaited blobs st front = running_in (play_of blobs st front) ≡ None

-- one cut of an awaited append after another, from a script to another, through scripts that do not meet the quota
abbrev pub AreCuts : List (List ℕ) → State → List StepLine → List Cut → List StepLine → Type 0
AreCuts blobs st s [] u = s ≡ u
AreCuts blobs st s (cut ∷ cuts) u =
    (whole_script cut ≡ s) × IsInParts blobs cut.piece cut.parts × IsAwaited blobs st cut.front
    × IsUnmet blobs st (cut_script cut) × AreCuts blobs st (cut_script cut) cuts u
