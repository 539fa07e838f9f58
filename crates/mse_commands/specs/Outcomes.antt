-- How a run ends, by its words, the library and the sink.
use Rattle.std.specs.Prelude.{◌≡◌, ◌⊎◌, ◌<◌, ℕ, List, [], ◌∷◌, ◌++◌, length, map, Option, None, MatchOption, IsSome, IsErr, Ok, Err, ⊤}
use Rattle.mse_outside.specs.Outside.{HasRisen, SinkView}
use Rattle.mse_calls.specs.declared.entry.Entry.{Entry}
use Rattle.mse_calls.specs.declared.rules.Rule.{Rule}
use Rattle.mse_engine.specs.Run.{IsReplay}
use Rattle.mse_engine.specs.Sound.{AreSoundBehind}
use Rattle.mse_engine.specs.Standing.{KeptEngine, Stands}
use Rattle.run_steps.specs.declared.note.Note.{Note}
use Rattle.remux.specs.Pieces.{pieces_of_file}
use Rattle.listeners.specs.declared.event_dispatch.DispatchFault.TheVariants as fault
use Rattle.script_run.specs.declared.stop.Stop.{Stop}
use Rattle.script_run.specs.declared.stop.Stop.TheVariants as stop
use Rattle.script_run.specs.PlayedParts.{IsDispatchCut, IsStoppedBy}
use Rattle.script_run.specs.RunStates.{outside_view}
use Rattle.script_run.specs.Rules.{rules_of_listener, rules_for}
use Rattle.script_run.specs.NoteHistory.{IsAllHeard}
use Rattle.script_run.specs.Turns.{HasCallsLeftInLine}
use Rattle.script_run.specs.Writes.{IsWritten, IsFrontWrittenBehind}
use Rattle.mse_commands.specs.declared.ending.End.{End}
use Rattle.mse_commands.specs.declared.ending.End.TheVariants.{Read, CallBudget, TaskBudget}
use Rattle.mse_commands.specs.declared.ending.Status.{Status}
use Rattle.mse_commands.specs.declared.ending.Status.TheVariants as status
use Rattle.mse_commands.specs.Requests.{Request, Task, ByScript, ByFile, ByRemux, blobs_of, opening_of}
use Rattle.mse_commands.specs.Endings.{error_line, status_of}
use Rattle.mse_commands.specs.Loads.{IsReached}
use Rattle.mse_commands.specs.Shown.{IsAllOf, IsFrontOf, closing_lines, last_state, shown_lines, text_of}

-- what stands around a run: the library's count of failures, what was written, and the notes and
-- rules of each listener
pub record Outside : Type 0 where
  pub faults : ℕ
  pub written : SinkView
  pub notes : List (List Note)
  pub rules : List (List Rule)

abbrev pub outside_of : ℕ → SinkView → List (List Note) → List (List Rule) → Outside
outside_of faults written notes rules =
    record { faults = faults; written = written; notes = notes; rules = rules }

-- what a run leaves: the journal, the engine, and what stands around the run before it and now
pub record RunOutcome : Type 0 where
  pub entries : List Entry
  pub engine : Option KeptEngine
  pub before : Outside
  pub now : Outside

abbrev pub outcome : List Entry → Option KeptEngine → Outside → Outside → RunOutcome
outcome entries engine before now =
    record { entries = entries; engine = engine; before = before; now = now }

-- the same of a library, a sink and listeners, before the run and now, by what is seen of each: the library's count of
-- failures, what was written, and the notes and rules of a listener
abbrev pub outside_at : {L K A : Type 0} → (L → ℕ) → (K → SinkView) → (A → List Note)
    → (A → List Rule) → L × K × List A → Outside
outside_at faults written notes rules place =
    outside_of (faults place.0) (written place.1) (map notes place.2) (map rules place.2)

abbrev pub outcome_at : {L K A : Type 0} → (L → ℕ) → (K → SinkView) → (A → List Note)
    → (A → List Rule) → List Entry → Option KeptEngine → L × K × List A → L × K × List A
    → RunOutcome
outcome_at faults written notes rules entries engine before now =
    outcome entries engine (outside_at faults written notes rules before)
    (outside_at faults written notes rules now)

-- ---- the journal and the engine

-- the engine stands for the state behind the last entry; where it was not made, there is none
abbrev pub IsEngineStanding : Task → List Entry → Option KeptEngine → Type 0
IsEngineStanding task entries engine =
    MatchOption engine (entries ≡ []) (λ kept. Stands kept (last_state task entries))

-- a classic file needs no engine
abbrev pub HasEngine : Task → List Entry → Option KeptEngine → Type 0
HasEngine (ByRemux bytes) entries engine = engine ≡ None
HasEngine task entries engine = IsEngineStanding task entries engine

-- Each entry of the journal tells what the machine does there; in the state behind each, the tracks are sound and their
-- frames end within the duration; and the engine stands for the state behind the last one.
pub record IsRun (task : Task) (outcome : RunOutcome) : Type 0 where
  pub replays : IsReplay (blobs_of task) (opening_of task) outcome.entries
  pub sound : AreSoundBehind (blobs_of task) (opening_of task) outcome.entries
  pub engine : HasEngine task outcome.entries outcome.engine

-- ---- the listeners

-- each listener has the rules of its number
abbrev pub AreRulesOfNumbers : List Rule → List (List Rule) → Type 0
AreRulesOfNumbers rules given =
    (w : ℕ) → w < length given → rules_of_listener given w ≡ rules_for w rules

-- of a script, each has its rules, heard each event, and answered it; else nobody was told anything
abbrev pub IsHeard : Task → RunOutcome → Type 0
IsHeard (ByScript script blobs) outcome =
    AreRulesOfNumbers script.rules outcome.now.rules
    × IsAllHeard outcome.entries outcome.before.notes outcome.now.notes
IsHeard other outcome =
    (outcome.now.rules ≡ outcome.before.rules) × (outcome.now.notes ≡ outcome.before.notes)

-- of a script, each has its rules where anything was done
abbrev pub AreRulesOfTask : Task → RunOutcome → Type 0
AreRulesOfTask (ByScript script blobs) outcome =
    (outcome.entries ≡ []) ⊎ AreRulesOfNumbers script.rules outcome.now.rules
AreRulesOfTask other outcome = outcome.now.rules ≡ outcome.before.rules

-- How far a task came that was cut short: a script as `IsStoppedBy` says what was heard and written; of a file nobody
-- heard anything, and nothing was written.
abbrev pub IsCutShort : Task → Stop → RunOutcome → Type 0
IsCutShort (ByScript script blobs) stop outcome =
    IsStoppedBy (HasCallsLeftInLine script.drain) stop outcome.entries
    (outside_view outcome.before.written outcome.before.notes)
    (outside_view outcome.now.written outcome.now.notes)
IsCutShort other stop outcome =
    (outcome.now.notes ≡ outcome.before.notes) × (outcome.now.written ≡ outcome.before.written)

-- ---- what was run

-- all of it, and the whole text was written
pub record IsWholeRun (count : ℕ) (task : Task) (outcome : RunOutcome) : Type 0 where
  pub run : IsRun task outcome
  pub all : IsAllOf count task outcome.entries
  pub wrote : IsWritten (text_of task outcome.entries) outcome.before.written outcome.now.written
  pub heard : IsHeard task outcome

-- nothing was run
pub record IsNothingRun (outcome : RunOutcome) : Type 0 where
  pub entries : outcome.entries ≡ []
  pub engine : outcome.engine ≡ None
  pub notes : outcome.now.notes ≡ outcome.before.notes
  pub rules : outcome.now.rules ≡ outcome.before.rules

-- a file breaks the byte stream format, or is no classic file that can be turned into fragments
abbrev pub IsBroken : Task → List Entry → Type 0
IsBroken (ByScript script blobs) entries = ⊥
IsBroken (ByFile command bytes) entries =
    IsSome (last_state (ByFile command bytes) entries).source.fault
IsBroken (ByRemux bytes) entries = IsErr (pieces_of_file bytes)

-- all was run: the status is 9 where a file breaks the byte stream format, and else 0
abbrev pub IsDoneBy : Task → List Entry → Status → Type 0
IsDoneBy task entries end =
    ((end ≡ status.Ok) × ¬ IsBroken task entries) ⊎ ((end ≡ status.Media) × IsBroken task entries)

-- ---- why a run ended early

-- The limit of an end: a listener answered an event with one call more than 1000; or it answered a call when the `most`
-- calls that listeners may make in one line had been made.
abbrev pub IsOverLimit : ℕ → End → List Entry → List (List Note) → List (List Note) → Type 0
IsOverLimit most (CallBudget k) entries old new =
    IsDispatchCut (HasCallsLeftInLine most) (fault.CallBudget k) entries old new
IsOverLimit most (TaskBudget limit) entries old new =
    (limit ≡ most) × IsDispatchCut (HasCallsLeftInLine most) fault.TaskBudget entries old new
IsOverLimit most end entries old new = ⊥

-- only a script stops at a limit: the one of this end
abbrev pub HasCause : Task → RunOutcome → End → Type 0
HasCause (ByScript script blobs) outcome end =
    IsOverLimit script.drain end outcome.entries outcome.before.notes outcome.now.notes
HasCause task outcome end = ⊥

-- Why nothing was run: the library failed to read the file of this name, which is one of those that are loaded, behind
-- others that are there; or there is nothing to run.
abbrev pub IsCauseOfRefusal : Request → RunOutcome → End → Type 0
IsCauseOfRefusal request outcome (Read name) =
    HasRisen outcome.before.faults outcome.now.faults
    × IsReached request.files request.names name
IsCauseOfRefusal request outcome end = request.task ≡ Err end

-- ---- what a run came to

-- All of a task was run; a front of it, up to a limit of calls that is told; a front of it, as far as memory and the sink
-- went; nothing, for a reason that is told; or nothing, for want of memory or of the sink.
pub data Ending : Type 0 where
  Whole : Task → Ending
  OverLimit : Task → End → Ending
  CutShort : Task → Ending
  Refused : End → Ending
  Unbegun : Ending

-- what happened, and how far it follows what was asked for
abbrev pub IsEnding : ℕ → Request → RunOutcome → Ending → Type 0
IsEnding count request outcome (Whole task) =
    (request.task ≡ Ok task) × IsRun task outcome × IsAllOf count task outcome.entries
IsEnding count request outcome (OverLimit task end) =
    (request.task ≡ Ok task) × IsRun task outcome × IsFrontOf count task outcome.entries
    × HasCause task outcome end
IsEnding count request outcome (CutShort task) =
    (request.task ≡ Ok task) × IsRun task outcome × IsFrontOf count task outcome.entries
IsEnding count request outcome (Refused end) =
    IsNothingRun outcome × IsCauseOfRefusal request outcome end
IsEnding count request outcome Unbegun = IsNothingRun outcome

-- the lines that are printed while a task runs
abbrev pub lines_ahead : List Entry → Ending → List (List ℕ)
lines_ahead entries (Whole task) = shown_lines task entries
lines_ahead entries (OverLimit task end) = shown_lines task entries
lines_ahead entries other = []

-- and those behind them: what closes it, or the line of the end
abbrev pub last_lines : List Entry → Ending → List (List ℕ)
last_lines entries (Whole task) = closing_lines task (last_state task entries)
last_lines entries (OverLimit task end) = error_line end ∷ []
last_lines entries (Refused end) = error_line end ∷ []
last_lines entries other = []

-- the status of it, where all lines were printed
abbrev pub IsStatusOf : List Entry → Ending → Status → Type 0
IsStatusOf entries (Whole task) end = IsDoneBy task entries end
IsStatusOf entries (OverLimit task why) end = end ≡ status_of why
IsStatusOf entries (CutShort task) end = ⊥
IsStatusOf entries (Refused why) end = end ≡ status_of why
IsStatusOf entries Unbegun end = ⊥

-- ---- by the status

-- What was heard: of a task that was run to its end, all. Where a limit stopped it, the cause says how much; and where it
-- was cut short, `IsFrontPrinted` does.
abbrev pub IsHeardBy : Ending → RunOutcome → Type 0
IsHeardBy (Whole task) outcome = IsHeard task outcome
IsHeardBy (OverLimit task why) outcome = AreRulesOfTask task outcome
IsHeardBy (CutShort task) outcome = AreRulesOfTask task outcome
IsHeardBy ending outcome = ⊤

-- What was printed where memory or the sink was wanting: of a task that was cut short as far as it came, and with it what
-- was heard, since both go by the fault of the last dispatch; nothing, where nothing was run; or the lines ahead, and a
-- front of the last ones.
abbrev pub IsFrontPrinted : Stop → Ending → RunOutcome → Type 0
IsFrontPrinted stop (CutShort task) outcome = IsCutShort task stop outcome
IsFrontPrinted stop Unbegun outcome = outcome.now.written ≡ outcome.before.written
IsFrontPrinted stop ending outcome =
    IsFrontWrittenBehind (lines_ahead outcome.entries ending) (last_lines outcome.entries ending)
    outcome.before.written outcome.now.written

-- all lines, and the status is that of the ending
pub record IsAllPrinted (ending : Ending) (end : Status) (outcome : RunOutcome) : Type 0 where
  pub status_is : IsStatusOf outcome.entries ending end
  pub wrote : IsWritten (lines_ahead outcome.entries ending ++ last_lines outcome.entries ending)
      outcome.before.written outcome.now.written

-- What was printed: a front where memory or the sink was wanting, and else all.
abbrev pub IsPrintedBy : Status → Ending → RunOutcome → Type 0
IsPrintedBy status.Write ending outcome = IsFrontPrinted stop.Write ending outcome
IsPrintedBy status.Memory ending outcome = IsFrontPrinted stop.Memory ending outcome
IsPrintedBy end ending outcome = IsAllPrinted ending end outcome

-- How a run ends: what it came to, which follows what was asked for; what listeners heard, and what was printed.
pub record IsEndOfRun (count : ℕ) (request : Request) (outcome : RunOutcome)
    (end : Status) : Type 0 where
  pub ending : Ending
  pub follows : IsEnding count request outcome ending
  pub heard : IsHeardBy ending outcome
  pub printed : IsPrintedBy end ending outcome
