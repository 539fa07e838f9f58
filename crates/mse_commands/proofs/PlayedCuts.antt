-- Scripts that differ in cuts come to the same where they are played.
use Rattle.std.proofs.Common.{◌≡◌, ℕ, List, length, ap, sym, subst, ◌∙◌}
use Rattle.mse_calls.specs.declared.entry.Entry.{Entry}
use Rattle.call_script.specs.declared.script.Script.{Script as CallScript}
use Rattle.call_script.specs.declared.script.StepLine.{StepLine}
use Rattle.run_steps.specs.Ways.{Way}
use Rattle.script_run.specs.Lines.{Limits, limits}
use Rattle.mse_engine.specs.State.{State}
use Rattle.mse_engine.specs.Run.{after_entries}
use Rattle.cut_law.specs.Cuts.{AreCuts, Cut}
use Rattle.cut_law.specs.Outcomes.{AreAlike}
use Rattle.cut_law.specs.Plays.{play_of}
use Rattle.cut_law.specs.Room.{IsUnmet}
use Rattle.cut_law.specs.Silent.{IsSilentJournal}
use Rattle.cut_law.proofs.Singles.{cuts-alike, one-play}
use Rattle.mse_commands.specs.Requests.{ByScript, opening_of}
use Rattle.mse_commands.specs.Ends.{IsPlayedSilently, with_steps}
use Rattle.mse_commands.specs.Played.{Part}
use Rattle.mse_commands.specs.Program.{script_played}
use Rattle.mse_commands.proofs.OwnJournals.{script_own}

silent_journal : (ways : List Way) (script : CallScript) (blobs : List (List ℕ)) → IsPlayedSilently ways script blobs
    → IsSilentJournal blobs (limits script.drain (length ways)) (opening_of (ByScript script blobs)) script.steps (script_played ways script blobs).entries
silent_journal ways script blobs s =
    let own = script_own ways script blobs in
    record { whole = own.whole s.to_end; replays = own.replays; silent = s.silent }

pub cuts_played : (ways : List Way) (script : CallScript) (blobs : List (List ℕ)) (cuts : List Cut) (steps : List StepLine) → IsUnmet blobs (opening_of (ByScript script blobs)) script.steps
    → AreCuts blobs (opening_of (ByScript script blobs)) script.steps cuts steps → IsPlayedSilently ways script blobs → IsPlayedSilently ways (with_steps steps script) blobs
    → AreAlike (script_played ways (with_steps steps script) blobs).now.state (script_played ways script blobs).now.state
cuts_played ways script blobs cuts steps room are s t =
    let st : State = opening_of (ByScript script blobs) in
    let most : Limits = limits script.drain (length ways) in
    let whole : Part = script_played ways script blobs in
    let cut : Part = script_played ways (with_steps steps script) blobs in
    let own = script_own ways script blobs in
    let other = script_own ways (with_steps steps script) blobs in
    let alike : AreAlike (play_of blobs st steps) (after_entries blobs st whole.entries) = cuts-alike blobs most st script.steps whole.entries (silent_journal ways script blobs s) cuts steps room are in
    let same : cut.now.state ≡ play_of blobs st steps = other.state ∙ ap (λ (xs : List Entry). after_entries blobs st xs) (one-play blobs most 0 st steps cut.entries (other.whole t.to_end) other.replays t.silent) in
    subst (λ (x : State). AreAlike x whole.now.state) (sym same) (subst (λ (x : State). AreAlike (play_of blobs st steps) x) (sym own.state) alike)
