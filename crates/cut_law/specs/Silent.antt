-- A journal of a script whose listeners make no calls, and scripts in which its appends are cut.
use Rattle.std.specs.Prelude.{◌≡◌, ℕ, List, ◌++◌}
use Rattle.mse_calls.specs.declared.entry.Entry.{Entry}
use Rattle.call_script.specs.declared.script.StepLine.{StepLine}
use Rattle.mse_engine.specs.State.{State}
use Rattle.mse_engine.specs.Run.{IsReplay, fired_events}
use Rattle.mse_engine.specs.DrainCounts.{HasStepCounts, events_queued_in}
use Rattle.script_run.specs.Turns.{calls_in}
use Rattle.script_run.specs.Lines.{Limits}
use Rattle.script_run.specs.Follows.{AreScriptLinesDone}
use Rattle.cut_law.specs.Cuts.{AreCuts, Cut}
use Rattle.cut_law.specs.Outcomes.{AreAlike}
use Rattle.cut_law.specs.Plays.{play_of}
use Rattle.cut_law.specs.Room.{IsUnmet}

-- every line is done, each entry tells what the machine does there, and no entry is a listener's call
pub record IsSilentJournal (blobs : List (List ℕ)) (limits : Limits) (st : State)
    (lines : List StepLine) (entries : List Entry) : Type 0 where
  pub whole : AreScriptLinesDone blobs limits lines st entries
  pub replays : IsReplay blobs st entries
  pub silent : calls_in entries ≡ 0

-- A drain without a listener's call has no more steps of work than there is work, and then no more turns than are left;
-- it fires, once each and in order, the events that the queue held and those that its steps queued.
pub record IsDrainCounted (blobs : List (List ℕ)) (st : State) (part : List Entry) : Type 0 where
  pub steps : HasStepCounts blobs st part
  pub events : fired_events part ≡ st.element.queue ++ events_queued_in blobs st part

-- Each script to which one comes from this one by cuts of awaited appends, one after another, comes to the same as this
-- state, where none of them meets the quota.
abbrev pub AreCutsAlike : List (List ℕ) → State → List StepLine → State → Type 0
AreCutsAlike blobs st s last =
    (cuts : List Cut) (t : List StepLine) → IsUnmet blobs st s → AreCuts blobs st s cuts t
    → AreAlike (play_of blobs st t) last
