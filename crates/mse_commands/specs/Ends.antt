-- How a run ends whose listeners tell their ways: as the program does that is a function.
use Rattle.std.specs.Prelude.{◌≡◌, ◌≢◌, ◌⊎◌, ℕ, List, [], ◌∷◌, ◌++◌, length, map, Some, None, ⊤}
use Rattle.mse_outside.specs.Outside.{HasRisen, SinkView}
use Rattle.mse_calls.specs.declared.entry.Entry.{Entry}
use Rattle.mse_calls.specs.declared.rules.Rule.{Rule}
use Rattle.call_script.specs.declared.script.Script.{Script as CallScript}
use Rattle.call_script.specs.declared.script.StepLine.{StepLine}
use Rattle.listeners.specs.Dispatch.{notes_at}
use Rattle.listeners.specs.Ways.{IsByWay}
use Rattle.run_steps.specs.Ways.{Way}
use Rattle.run_steps.specs.declared.note.Note.{Note}
use Rattle.mse_engine.specs.Run.{IsReplay}
use Rattle.script_run.specs.declared.stop.Stop.{Stop}
use Rattle.script_run.specs.NoteHistory.{IsAllHeard}
use Rattle.script_run.specs.Turns.{calls_in}
use Rattle.script_run.specs.Writes.{IsWritten, IsFrontWritten}
use Rattle.mse_commands.specs.declared.ending.Status.{Status}
use Rattle.mse_commands.specs.declared.ending.Status.TheVariants as status
use Rattle.mse_commands.specs.Endings.{end_of_stop}
use Rattle.mse_commands.specs.Outcomes.{AreRulesOfNumbers, IsOverLimit, RunOutcome}
use Rattle.mse_commands.specs.Requests.{ByScript, opening_of}
use Rattle.mse_commands.specs.Shown.{IsAllOf, IsFrontOf, last_state}
use Rattle.mse_commands.specs.Played.{Part, notes_of_each}
use Rattle.mse_commands.specs.Program.{Output, script_played}

-- each listener, by its rules and its notes, did what its way gives
abbrev pub AreByWays : List Way → List (List Rule) → List (List Note) → Type 0
AreByWays [] [] [] = ⊤
AreByWays (way ∷ ways) (rules ∷ given) (notes ∷ others) =
    IsByWay (Some way) rules notes × AreByWays ways given others
AreByWays ways given notes = ⊥

-- Neither the library nor the sink failed, and listeners that had heard nothing did what these ways give.
pub record IsRunByWays (ways : List Way) (outcome : RunOutcome) (end : Status) : Type 0 where
  pub loads : ¬ HasRisen outcome.before.faults outcome.now.faults
  pub puts : end ≢ status.Write
  pub fresh : (w : ℕ) → notes_at outcome.before.notes w ≡ []
  pub by_ways : AreByWays ways outcome.now.rules outcome.now.notes

-- it ended with this status and wrote just these lines; or there was no memory, and it wrote a front of them
abbrev pub IsOutputBy : Output → SinkView → SinkView → Status → Type 0
IsOutputBy output old new end =
    ((end ≡ output.status) × IsWritten output.lines old new)
    ⊎ ((end ≡ status.Memory) × IsFrontWritten output.lines old new)

-- these are all entries; or there was no memory, and they are a front of them
abbrev pub IsJournalBy : List Entry → List Entry → Status → Type 0
IsJournalBy all entries end =
    (entries ≡ all)
    ⊎ ((end ≡ status.Memory) × ((rest : List Entry) × (all ≡ entries ++ rest)))

-- ---- the journal of the program

-- nobody has heard anything
abbrev pub empty_notes : List Way → List (List Note)
empty_notes ways = map (λ way. []) ways

-- A script that is played has a journal: each entry tells what the machine does there; the lines are done one after the
-- other, and each listener hears each event, all of this where no limit stops the play, and else up to a call beyond that
-- limit; and each listener, by the rules of its number, does what its way gives.
pub record IsOwnJournal (ways : List Way) (script : CallScript) (blobs : List (List ℕ))
    (part : Part) : Type 0 where
  pub replays : IsReplay blobs (opening_of (ByScript script blobs)) part.entries
  pub state : part.now.state ≡ last_state (ByScript script blobs) part.entries
  pub whole : part.stop ≡ None → IsAllOf (length ways) (ByScript script blobs) part.entries
  pub front : IsFrontOf (length ways) (ByScript script blobs) part.entries
  pub heard : part.stop ≡ None
      → IsAllHeard part.entries (empty_notes ways) (notes_of_each part.now.listeners)
  pub cause : (stop : Stop) → part.stop ≡ Some stop
      → IsOverLimit script.drain (end_of_stop script.drain stop) part.entries (empty_notes ways)
      (notes_of_each part.now.listeners)
  pub by_ways : (given : List (List Rule)) → length given ≡ length ways
      → AreRulesOfNumbers script.rules given
      → AreByWays ways given (notes_of_each part.now.listeners)

-- a script is played to its end, and no listener makes a call
pub record IsPlayedSilently (ways : List Way) (script : CallScript)
    (blobs : List (List ℕ)) : Type 0 where
  pub to_end : (script_played ways script blobs).stop ≡ None
  pub silent : calls_in (script_played ways script blobs).entries ≡ 0

-- the script with these lines
abbrev pub with_steps : List StepLine → CallScript → CallScript
with_steps steps script = record script { steps = steps }
