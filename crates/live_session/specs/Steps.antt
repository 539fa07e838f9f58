-- What a step of a session does.
use Rattle.std.specs.Prelude.{◌≡◌, ℕ, ◌-◌, nat_le, nat_lt, min, max, Bool, true, ◌&&◌, List, length, Option, Some, None, option_and_then, slice_get}
use Rattle.mse_calls.specs.Blobs.{forgotten_before}
use Rattle.mse_calls.specs.declared.answers.Answer.{Answer}
use Rattle.mse_calls.specs.declared.answers.Answer.TheVariants as answer
use Rattle.mse_calls.specs.declared.answers.Name.{Name}
use Rattle.mse_calls.specs.declared.calls.Call.{Call}
use Rattle.mse_calls.specs.declared.calls.Call.TheVariants.{AppendBuffer}
use Rattle.mse_calls.specs.declared.entry.Entry.{Entry}
use Rattle.mse_calls.specs.declared.entry.Entry.TheVariants as entry
use Rattle.call_script.specs.declared.script.StepLine.{StepLine}
use Rattle.call_script.specs.declared.script.StepLine.TheVariants as step
use Rattle.mse_outside.specs.Outside.{SinkView}
use Rattle.mse_engine.specs.Calls.{after_call}
use Rattle.mse_engine.specs.State.{State}
use Rattle.mse_engine.specs.Standing.{KeptEngine, Stands}
use Rattle.cut_law.specs.Plays.{after_line, line_entries}
use Rattle.script_run.specs.declared.stop.Halt.{Halt}
use Rattle.script_run.specs.declared.stop.Halt.TheVariants as halt
use Rattle.script_run.specs.declared.stop.Stop.{Stop}
use Rattle.script_run.specs.declared.stop.Stop.TheVariants as stop
use Rattle.script_run.specs.Text.{lines_of}
use Rattle.script_run.specs.Writes.{IsWritten, IsFrontWritten}

-- the engine, the bytes that were handed over, and how many of their front blobs are forgotten
pub record SessionView : Type 0 where
  pub engine : KeptEngine
  pub blobs : List (List ℕ)
  pub forgotten : ℕ

-- ---- bytes

-- the blob that a line takes its bytes from, if it is an append
abbrev pub blob_of_call : Call → Option ℕ
blob_of_call (AppendBuffer k piece) = Some piece.blob
blob_of_call other = None

abbrev pub blob_of : StepLine → Option ℕ
blob_of (step.Call call) = blob_of_call call
blob_of other = None

-- a blob was handed over, and is not forgotten
abbrev pub has_bytes_of : SessionView → Option ℕ → Bool
has_bytes_of s None = true
has_bytes_of s (Some blob) = nat_le s.forgotten blob && nat_lt blob (length s.blobs)

-- a line names no blob, or one of these
abbrev pub has_its_bytes : SessionView → StepLine → Bool
has_its_bytes s line = has_bytes_of s (blob_of line)

-- the blobs below a number, of those that were handed over, are forgotten
abbrev pub without_front : ℕ → SessionView → SessionView
without_front n s = record {
  engine = s.engine;
  blobs = forgotten_before n s.blobs;
  forgotten = max s.forgotten (min n (length s.blobs));
}

-- ---- a step

-- the lines that a step prints at a state
abbrev pub step_lines : List (List ℕ) → State → StepLine → List (List ℕ)
step_lines blobs st line = lines_of (line_entries blobs st line)

-- the name of an answer that refuses
abbrev pub refusal_name : Answer → Option Name
refusal_name (answer.Refused name) = Some name
refusal_name other = None

-- the name by which the call of a step is refused, if it is
abbrev pub step_refusal : List (List ℕ) → State → StepLine → Option Name
step_refusal blobs st (step.Call call) = refusal_name (after_call blobs call st).answer
step_refusal blobs st other = None

-- the name by which an entry tells that a call of the script was refused
abbrev pub refusal_of_entry : Entry → Option Name
refusal_of_entry (entry.Script call answer) = refusal_name answer
refusal_of_entry other = None

-- that of the last entry, where there is one
abbrev pub last_refusal : List Entry → Option Name
last_refusal entries = option_and_then refusal_of_entry (slice_get entries (length entries - 1))

-- the halt that a stop is where nobody listens, so that no limit of calls is met
abbrev pub halt_of_stop : Stop → Halt
halt_of_stop stop.Write = halt.Write
halt_of_stop other = halt.Memory

-- the step was done, and nothing else; its lines were written, and this is its refusal
pub record IsStepDone (st : State) (line : StepLine) (refused : Option Name)
    (old new : SessionView) (before now : SinkView) : Type 0 where
  pub stands : Stands new.engine (after_line old.blobs st line)
  pub wrote : IsWritten (step_lines old.blobs st line) before now
  pub refusal : refused ≡ step_refusal old.blobs st line
  pub rest : new ≡ record old { engine = new.engine }

-- a front of its lines was written
abbrev pub IsStepHalted : State → StepLine → SessionView → SinkView → SinkView → Type 0
IsStepHalted st line old before now = IsFrontWritten (step_lines old.blobs st line) before now
