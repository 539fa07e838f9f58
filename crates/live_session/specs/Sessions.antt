-- A session as a whole: what was handed over and done so far, as a script that is played.
use Rattle.std.specs.Prelude.{◌≡◌, ℕ, ◌<◌, ◌≤◌, List, [], ◌∷◌, ◌++◌, length, slice_get, All, IfSome}
use Rattle.call_script.specs.declared.script.Script.{Script as CallScript}
use Rattle.call_script.specs.declared.script.StepLine.{StepLine}
use Rattle.mse_engine.specs.Standing.{Stands}
use Rattle.script_run.specs.Text.{lines_of}
use Rattle.mse_commands.specs.Ends.{with_steps}
use Rattle.mse_commands.specs.Program.{script_played}
use Rattle.live_session.specs.Steps.{SessionView, blob_of}

-- the script with one step more
abbrev pub with_step : StepLine → CallScript → CallScript
with_step line script = with_steps (script.steps ++ line ∷ []) script

-- the lines that `play` prints of it before its closing block, where nobody listens
abbrev pub lines_played_of : CallScript → List (List ℕ) → List (List ℕ)
lines_played_of script blobs = lines_of (script_played [] script blobs).entries

-- a line takes its bytes from one of so many blobs, if it takes any
abbrev pub IsInside : ℕ → StepLine → Type 0
IsInside count line = IfSome (blob_of line) (λ blob. blob < count)

-- two lists of blobs have the same bytes for a line
abbrev pub IsSameFor : StepLine → List (List ℕ) → List (List ℕ) → Type 0
IsSameFor line blobs others =
    IfSome (blob_of line) (λ blob. slice_get blobs blob ≡ slice_get others blob)

-- The session is where the play of this script, over blobs with these bytes, is before its closing block. These are the
-- lines that its steps printed, put together. Of the blobs that it has not forgotten it has the bytes.
pub record HasPlayed (script : CallScript) (blobs lines : List (List ℕ))
    (s : SessionView) : Type 0 where
  pub as_many : length s.blobs ≡ length blobs
  pub kept : (blob : ℕ) → s.forgotten ≤ blob → slice_get s.blobs blob ≡ slice_get blobs blob
  pub inside : All (IsInside (length blobs)) script.steps
  pub stands : Stands s.engine (script_played [] script blobs).now.state
  pub printed : lines ≡ lines_played_of script blobs
