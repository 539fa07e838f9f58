-- When a run goes through to its end, and what then is known of scripts whose appends are cut.
use Rattle.std.specs.Prelude.{◌≡◌, ◌⊎◌, ℕ, List, Ok}
use Rattle.mse_outside.specs.Outside.{HasRisen}
use Rattle.mse_calls.specs.declared.entry.Entry.{Entry}
use Rattle.call_script.specs.declared.script.Script.{Script as CallScript}
use Rattle.script_run.specs.Turns.{calls_in}
use Rattle.cut_law.specs.Silent.{AreCutsAlike}
use Rattle.mse_commands.specs.declared.ending.End.{End}
use Rattle.mse_commands.specs.declared.ending.Status.{Status}
use Rattle.mse_commands.specs.declared.ending.Status.TheVariants as status
use Rattle.mse_commands.specs.Requests.{Request, Task, ByScript, opening_of}
use Rattle.mse_commands.specs.Loads.{Failures}
use Rattle.mse_commands.specs.Outcomes.{HasCause, IsDoneBy, RunOutcome, IsWholeRun}
use Rattle.mse_commands.specs.Shown.{last_state}

-- Nothing stands in the way of a task: neither the library nor the sink failed, of which `puts` has
-- the counts, and no listener called too often.
pub record IsUnhindered (task : Task) (outcome : RunOutcome) (puts : Failures) : Type 0 where
  pub loads_done : ¬ HasRisen outcome.before.faults outcome.now.faults
  pub puts_done : ¬ HasRisen puts.before puts.now
  pub calls_within : (end : End) → ¬ HasCause task outcome end

-- all of it was run, and the whole text was written
pub record IsRunToEnd (count : ℕ) (task : Task) (outcome : RunOutcome) (end : Status) : Type 0 where
  pub ran : IsWholeRun count task outcome
  pub done : IsDoneBy task outcome.entries end

-- Where the words are a command, its files are there and its script reads, and nothing stands in the way, all is run and
-- the whole text is written, or there was no memory.
abbrev pub IsComplete : ℕ → Request → RunOutcome → Failures → Status → Type 0
IsComplete count request outcome puts end =
    (task : Task) → request.task ≡ Ok task → IsUnhindered task outcome puts
    → IsRunToEnd count task outcome end ⊎ (end ≡ status.Memory)

-- Where a script was played to its end and no listener made a call, cutting appended bytes anywhere, where the append was
-- awaited and the quota is not met, comes to the same as its last state: to the same tracks, ranges, append states, held
-- bytes, duration and first fault.
abbrev pub IsCutAnywhere : Request → List Entry → Status → Type 0
IsCutAnywhere request entries end =
    (script : CallScript) (blobs : List (List ℕ)) → request.task ≡ Ok (ByScript script blobs)
    → end ≡ status.Ok
    → calls_in entries ≡ 0
    → AreCutsAlike blobs (opening_of (ByScript script blobs)) script.steps
    (last_state (ByScript script blobs) entries)
