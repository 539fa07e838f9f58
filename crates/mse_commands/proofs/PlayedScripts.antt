-- How a script was played.
use Rattle.std.proofs.Common.{◌≡◌, ◌<◌, ℕ, List, ◌++◌, length, map, refl, sym, subst, arith, inl, inr}
use Rattle.std.proofs.lemmas.List.{length-map}
use Rattle.std.specs.Prelude.{true, false, Result, Ok, Err, OnErr}
use Rattle.mse_calls.specs.declared.rules.Rule.{Rule}
use Rattle.event_text.specs.Block.{closing_text}
use Rattle.run_steps.specs.declared.note.Note.{Note}
use Rattle.mse_engine.specs.State.{State}
use Rattle.mse_engine.specs.Standing.{Stands}
use Rattle.mse_engine.specs.Views.{view_in}
use Rattle.mse_outside.specs.Outside.{SinkView}
use Rattle.script_run.specs.declared.stop.Halt.{Halt}
use Rattle.script_run.specs.declared.stop.Halt.TheVariants as halt
use Rattle.script_run.specs.declared.stop.Stop.{Stop}
use Rattle.script_run.specs.declared.stop.Stop.TheVariants.{Memory, Write, CallBudget, TaskBudget}
use Rattle.script_run.specs.Follows.{AreScriptLinesDone}
use Rattle.script_run.specs.PlayedParts.{IsPlayed, IsPlayedUpTo}
use Rattle.script_run.specs.Rules.{rules_of_listener, rules_for}
use Rattle.listeners.specs.Views.{RunView}
use Rattle.script_run.specs.RunStates.{RunState, run_at}
use Rattle.script_run.specs.Text.{lines_in}
use Rattle.script_run.specs.Writes.{IsWritten, IsFrontWritten}
use Rattle.script_run.proofs.PutLines.{front_more}
use Rattle.mse_commands.specs.Endings.{end_of_halt, end_of_stop}
use Rattle.mse_commands.specs.Outcomes.{AreRulesOfNumbers}
use Rattle.mse_commands.specs.Works.{IsScriptShowResult, ScriptInputs, lines_front}

pub plays_to_stop : (inputs : ScriptInputs) (given : List (List Rule)) (a b : RunState) (stop : Stop)
    → IsPlayedUpTo inputs.blobs (lines_front inputs) stop a b → AreRulesOfNumbers inputs.rules given → IsScriptShowResult inputs given a b (Err (end_of_stop inputs.limits.limit stop))
plays_to_stop inputs given a b Memory p h = inr (inl (record { played = p; rules_are = h }))
plays_to_stop inputs given a b Write p h = inr (inl (record { played = p; rules_are = h }))
plays_to_stop inputs given a b (CallBudget k) p h = record { played = p; rules_are = h }
plays_to_stop inputs given a b TaskBudget p h = (refl, record { played = p; rules_are = h })

pub plays_whole : (inputs : ScriptInputs) (given : List (List Rule)) (r0 r1 : RunView) (w0 w1 w2 : SinkView) (n0 n1 : List (List Note))
    → IsPlayed inputs.blobs (AreScriptLinesDone inputs.blobs inputs.limits inputs.lines) (run_at r0 w0 n0) (run_at r1 w1 n1) → ((st : State) → Stands r1.engine st → IsWritten (lines_in (closing_text (view_in st) true)) w1 w2) → AreRulesOfNumbers inputs.rules given
    → IsScriptShowResult inputs given (run_at r0 w0 n0) (run_at r1 w2 n1) (Ok false)
plays_whole inputs given r0 r1 w0 w1 w2 n0 n1 p wrote h = (refl, record { middle = w1; played = p; shown = record { wrote = wrote }; rules_are = h })

pub plays_half : (inputs : ScriptInputs) (given : List (List Rule)) (r0 r1 : RunView) (w0 w1 w2 : SinkView) (n0 n1 : List (List Note)) (h : Halt)
    → IsPlayed inputs.blobs (AreScriptLinesDone inputs.blobs inputs.limits inputs.lines) (run_at r0 w0 n0) (run_at r1 w1 n1) → ((st : State) → Stands r1.engine st → IsFrontWritten (lines_in (closing_text (view_in st) true)) w1 w2) → AreRulesOfNumbers inputs.rules given
    → IsScriptShowResult inputs given (run_at r0 w0 n0) (run_at r1 w2 n1) (Err (end_of_halt h))
plays_half inputs given r0 r1 w0 w1 w2 n0 n1 halt.Memory p wrote h = inr (inr (record { middle = w1; played = p; shown = wrote; rules_are = h }))
plays_half inputs given r0 r1 w0 w1 w2 n0 n1 halt.Write p wrote h = inr (inr (record { middle = w1; played = p; shown = wrote; rules_are = h }))

-- a put behind another one was not done
pub err_behind : (r : Result (Unit {0}) Halt) (before text : List (List ℕ)) (old mid new : SinkView) → IsWritten before old mid → OnErr r (IsFrontWritten text mid new) → OnErr r (IsFrontWritten (before ++ text) old new)
err_behind (Ok u) before text old mid new w p = tt
err_behind (Err e) before text old mid new w p = front_more before text old mid new w p

-- the listeners have the rules that they were given
pub have_rules : {X : Type 0} (f : X → List Rule) (xs : List X) (n : ℕ) (rules list : List Rule) (now : List (List Rule)) → now ≡ map f xs → list ≡ rules
    → ((w : ℕ) → w < n → rules_of_listener (map f xs) w ≡ rules_for w list) → length xs ≡ n → AreRulesOfNumbers rules now
have_rules f xs n rules list now e q given len =
    subst (λ (x : List (List Rule)). AreRulesOfNumbers rules x) (sym e)
    (subst (λ (r : List Rule). AreRulesOfNumbers r (map f xs)) q (λ w h. given w (omega (arith, h, len, length-map xs f))))
