-- What is done before the line that says why a run ends early.
use Rattle.std.specs.Prelude.{◌≡◌, ◌⊎◌, ℕ, List, [], ◌∷◌, ◌++◌, length, Bool, true, false, Result, Ok, Err, is_err, is_some}
use Rattle.mse_outside.specs.Outside.{SinkView}
use Rattle.mse_calls.specs.declared.answers.Answer.{Answer}
use Rattle.mse_calls.specs.declared.calls.Piece.{Piece}
use Rattle.mse_calls.specs.declared.entry.Entry.{Entry}
use Rattle.call_script.specs.declared.script.Script.{Script as CallScript}
use Rattle.call_script.specs.declared.script.StepLine.{StepLine}
use Rattle.mse_calls.specs.declared.rules.Rule.{Rule}
use Rattle.event_text.specs.Block.{closing_text}
use Rattle.mse_engine.specs.State.{State}
use Rattle.mse_engine.specs.Standing.{Stands}
use Rattle.mse_engine.specs.Views.{view_in}
use Rattle.remux.specs.Pieces.{pieces_of_file}
use Rattle.script_run.specs.declared.stop.Stop.{Stop}
use Rattle.script_run.specs.declared.stop.Stop.TheVariants as stop
use Rattle.script_run.specs.Follows.{AreScriptLinesDone, AreScriptLinesBegun}
use Rattle.script_run.specs.Lines.{Limits, limits}
use Rattle.listeners.specs.Views.{RunView}
use Rattle.script_run.specs.PlayedParts.{PartFront, HasGrown, IsPlayed, IsPlayedUpTo, IsOwnStep, part_front}
use Rattle.script_run.specs.RunStates.{PrintedRun, RunState}
use Rattle.script_run.specs.Text.{lines_in}
use Rattle.script_run.specs.Turns.{HasCallsLeftInLine, calls_in}
use Rattle.script_run.specs.Writes.{IsWritten, IsFrontWritten, IsFrontWrittenBehind}
use Rattle.mse_commands.specs.declared.ending.End.{End}
use Rattle.mse_commands.specs.declared.ending.End.TheVariants.{Memory, Write, Words, NoFile, Read, Script, CallBudget, TaskBudget}
use Rattle.mse_commands.specs.Requests.{Request, Task, ByScript, ByFile, ByRemux}
use Rattle.mse_commands.specs.Outcomes.{HasCause, AreRulesOfNumbers, AreRulesOfTask, IsCutShort, IsHeard, IsCauseOfRefusal, IsRun, RunOutcome, IsNothingRun, IsWholeRun}
use Rattle.mse_commands.specs.Shown.{IsAllOf, IsFrontOf, IsWholeFile, closing_lines, file_closing, last_state, open_entries, pieces_by, shown_lines}
use Rattle.mse_commands.specs.declared.words.Command.{Command}

-- the source was opened, and has a source buffer of ISO BMFF
pub record IsOpened (blobs : List (List ℕ)) (old new : RunView) : Type 0 where
  pub attached : Answer
  pub added : Answer
  pub stepped : IsOwnStep blobs (open_entries attached added) old new

-- a front of that was done
pub record IsFrontOpened (blobs : List (List ℕ)) (old new : RunView) : Type 0 where
  pub entries : List Entry
  pub stepped : IsOwnStep blobs entries old new
  pub attached : Answer
  pub added : Answer
  pub rest : List Entry
  pub opens : open_entries attached added ≡ entries ++ rest

-- a file was appended in these pieces, and nobody heard of it
pub record IsAppended (bytes : List ℕ) (pieces : List Piece) (old new : RunView) : Type 0 where
  pub entries : List Entry
  pub grew : HasGrown (bytes ∷ []) (λ st part. IsWholeFile (bytes ∷ []) st pieces part) old new
      entries
  pub silent : calls_in entries ≡ 0

-- a front of that was done
pub record IsPartAppended (bytes : List ℕ) (pieces : List Piece) (old new : RunView) : Type 0 where
  pub entries : List Entry
  pub grew : HasGrown (bytes ∷ []) (λ st part. (rest : List Entry)
      × IsWholeFile (bytes ∷ []) st pieces (part ++ rest)) old new entries

-- ---- a file that is shown

-- what is written of it, for the state that the engine stands for
abbrev pub IsFrontShown : (State → List (List ℕ)) → RunView → SinkView → SinkView → Type 0
IsFrontShown lines new written_before written =
    (st : State) → Stands new.engine st → IsFrontWritten (lines st) written_before written

pub record IsAllShown (lines : State → List (List ℕ)) (new : RunView)
    (written_before written : SinkView) : Type 0 where
  pub wrote : (st : State) → Stands new.engine st → IsWritten (lines st) written_before written

-- what closes a script
abbrev pub script_closing : State → List (List ℕ)
script_closing st = lines_in (closing_text (view_in st) true)

pub record IsFileShown (command : Command) (bytes : List ℕ) (old new : PrintedRun)
    (broken : Bool) : Type 0 where
  pub appended : IsAppended bytes (pieces_by command (length bytes)) old.run new.run
  pub shown : IsAllShown (file_closing command (length bytes)) new.run old.written new.written
  pub broken_is : (st : State) → Stands new.run.engine st → broken ≡ is_some st.source.fault

-- a front was appended and nothing was written; or all was appended, and a front of it was written
abbrev pub IsFileFrontShown : Command → List ℕ → PrintedRun → PrintedRun → Type 0
IsFileFrontShown command bytes old new =
    (IsPartAppended bytes (pieces_by command (length bytes)) old.run new.run
    × (new.written ≡ old.written))
    ⊎ (IsAppended bytes (pieces_by command (length bytes)) old.run new.run
    × IsFrontShown (file_closing command (length bytes)) new.run old.written new.written)

abbrev pub IsFileShowResult : Command → List ℕ → PrintedRun → PrintedRun → Result Bool End → Type 0
IsFileShowResult command bytes old new (Ok broken) = IsFileShown command bytes old new broken
IsFileShowResult command bytes old new (Err Memory) = IsFileFrontShown command bytes old new
IsFileShowResult command bytes old new (Err Write) = IsFileFrontShown command bytes old new
IsFileShowResult command bytes old new (Err other) = ⊥

-- ---- a script that is played

-- what is played: the lines and rules of a script, over these blobs, within these limits
pub record ScriptInputs : Type 0 where
  pub limits : Limits
  pub blobs : List (List ℕ)
  pub lines : List StepLine
  pub rules : List Rule

-- a script and its blobs, for so many listeners
abbrev pub script_inputs : ℕ → CallScript → List (List ℕ) → ScriptInputs
script_inputs count script blobs = record {
  limits = limits script.drain count;
  blobs = blobs;
  lines = script.steps;
  rules = script.rules;
}

-- all lines, and what closes a script
pub record IsScriptPlayed (inputs : ScriptInputs) (given : List (List Rule))
    (old new : RunState) : Type 0 where
  pub middle : SinkView
  pub played : IsPlayed inputs.blobs (AreScriptLinesDone inputs.blobs inputs.limits inputs.lines)
      old
      (record new { written = middle })
  pub shown : IsAllShown script_closing new.run middle new.written
  pub rules_are : AreRulesOfNumbers inputs.rules given

-- a front of the lines, and how many calls listeners may still make
abbrev pub lines_front : ScriptInputs → PartFront
lines_front inputs = part_front (AreScriptLinesBegun inputs.blobs inputs.limits inputs.lines)
    (HasCallsLeftInLine inputs.limits.limit)

-- it stopped in a line, or behind the last one
pub record IsScriptStopped (inputs : ScriptInputs) (given : List (List Rule)) (old new : RunState)
    (stop : Stop) : Type 0 where
  pub played : IsPlayedUpTo inputs.blobs (lines_front inputs) stop old new
  pub rules_are : AreRulesOfNumbers inputs.rules given

-- all lines, and a front of what closes a script
pub record IsScriptHalfPlayed (inputs : ScriptInputs) (given : List (List Rule))
    (old new : RunState) : Type 0 where
  pub middle : SinkView
  pub played : IsPlayed inputs.blobs (AreScriptLinesDone inputs.blobs inputs.limits inputs.lines)
      old
      (record new { written = middle })
  pub shown : IsFrontShown script_closing new.run middle new.written
  pub rules_are : AreRulesOfNumbers inputs.rules given

-- no line was begun
pub record IsScriptUnplayed (old new : RunState) : Type 0 where
  pub run : new.run ≡ old.run
  pub written : new.written ≡ old.written
  pub notes : new.notes ≡ old.notes

-- for want of memory or of the sink no line was begun, or it stopped within its lines
abbrev pub IsScriptCutShort : ScriptInputs → List (List Rule) → RunState → RunState → Stop → Type 0
IsScriptCutShort inputs given old new stop =
    IsScriptUnplayed old new ⊎ IsScriptStopped inputs given old new stop
    ⊎ IsScriptHalfPlayed inputs given old new

abbrev pub IsScriptShowResult : ScriptInputs → List (List Rule) → RunState → RunState
    → Result Bool End → Type 0
IsScriptShowResult inputs given old new (Ok broken) =
    (broken ≡ false) × IsScriptPlayed inputs given old new
IsScriptShowResult inputs given old new (Err Memory) =
    IsScriptCutShort inputs given old new stop.Memory
IsScriptShowResult inputs given old new (Err Write) =
    IsScriptCutShort inputs given old new stop.Write
IsScriptShowResult inputs given old new (Err (CallBudget k)) =
    IsScriptStopped inputs given old new (stop.CallBudget k)
IsScriptShowResult inputs given old new (Err (TaskBudget limit)) =
    (limit ≡ inputs.limits.limit) × IsScriptStopped inputs given old new stop.TaskBudget
IsScriptShowResult inputs given old new (Err other) = ⊥

-- ---- a run

-- whether a file breaks the byte stream format, or cannot be turned into fragments; no script does
abbrev pub is_broken_in : Task → List Entry → Bool
is_broken_in (ByScript script blobs) entries = false
is_broken_in (ByFile command bytes) entries =
    is_some (last_state (ByFile command bytes) entries).source.fault
is_broken_in (ByRemux bytes) entries = is_err (pieces_of_file bytes)

-- a front was run
pub record IsFrontRun (count : ℕ) (task : Task) (outcome : RunOutcome) : Type 0 where
  pub run : IsRun task outcome
  pub front : IsFrontOf count task outcome.entries
  pub rules : AreRulesOfTask task outcome

-- it was cut short; or all was run and heard, and all lines and a front of those that close it were written
abbrev pub IsCutShortOrClosed : ℕ → Task → Stop → RunOutcome → Type 0
IsCutShortOrClosed count task stop outcome =
    IsCutShort task stop outcome
    ⊎ (IsAllOf count task outcome.entries × IsHeard task outcome
    × IsFrontWrittenBehind (shown_lines task outcome.entries)
    (closing_lines task (last_state task outcome.entries))
    outcome.before.written outcome.now.written)

-- nothing was run and nothing was written
pub record IsNothingDone (outcome : RunOutcome) : Type 0 where
  pub nothing : IsNothingRun outcome
  pub wrote : outcome.now.written ≡ outcome.before.written

-- a front was run; then memory or the sink was wanting, as `stop` says
pub record IsSomeDone (count : ℕ) (stop : Stop) (task : Task) (outcome : RunOutcome) : Type 0 where
  pub ran : IsFrontRun count task outcome
  pub came : IsCutShortOrClosed count task stop outcome

-- it stopped for a cause, behind the lines of all its entries
pub record IsDoneUpTo (count : ℕ) (task : Task) (outcome : RunOutcome) (end : End) : Type 0 where
  pub ran : IsFrontRun count task outcome
  pub cause : HasCause task outcome end
  pub wrote : IsWritten (shown_lines task outcome.entries) outcome.before.written
      outcome.now.written

pub record IsAllDone (count : ℕ) (task : Task) (outcome : RunOutcome) (broken : Bool) : Type 0 where
  pub ran : IsWholeRun count task outcome
  pub broken_is : broken ≡ is_broken_in task outcome.entries

abbrev pub IsTaskDone : ℕ → Request → Task → RunOutcome → Result Bool End → Type 0
IsTaskDone count request task outcome (Ok broken) = IsAllDone count task outcome broken
IsTaskDone count request task outcome (Err Memory) =
    IsNothingDone outcome ⊎ IsSomeDone count stop.Memory task outcome
IsTaskDone count request task outcome (Err Write) = IsSomeDone count stop.Write task outcome
IsTaskDone count request task outcome (Err (Read name)) =
    IsNothingDone outcome × IsCauseOfRefusal request outcome (Read name)
IsTaskDone count request task outcome (Err (CallBudget k)) =
    IsDoneUpTo count task outcome (CallBudget k)
IsTaskDone count request task outcome (Err (TaskBudget limit)) =
    IsDoneUpTo count task outcome (TaskBudget limit)
IsTaskDone count request task outcome (Err Words) = ⊥
IsTaskDone count request task outcome (Err (NoFile name)) = ⊥
IsTaskDone count request task outcome (Err (Script fault)) = ⊥

-- there is nothing to run, for this end, unless the library failed before or there was no memory
abbrev pub IsTaskMissing : Request → End → RunOutcome → Result Bool End → Type 0
IsTaskMissing request end outcome (Ok broken) = ⊥
IsTaskMissing request end outcome (Err Memory) = IsNothingDone outcome
IsTaskMissing request end outcome (Err (Read name)) =
    IsNothingDone outcome × IsCauseOfRefusal request outcome (Read name)
IsTaskMissing request end outcome (Err other) = IsNothingDone outcome × (other ≡ end)

abbrev pub IsRequestDoneBy : ℕ → Request → Result Task End → RunOutcome → Result Bool End → Type 0
IsRequestDoneBy count request (Ok task) outcome result =
    IsTaskDone count request task outcome result
IsRequestDoneBy count request (Err end) outcome result = IsTaskMissing request end outcome result

-- what is done of what was asked for
abbrev pub IsRequestDone : ℕ → Request → RunOutcome → Result Bool End → Type 0
IsRequestDone count request outcome result =
    IsRequestDoneBy count request request.task outcome result
