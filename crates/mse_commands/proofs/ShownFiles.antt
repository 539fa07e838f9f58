-- A file that was shown, and what was asked for.
use Rattle.std.proofs.Common.{◌≡◌, ℕ, List, [], length, refl, subst, inl, inr}
use Rattle.std.specs.Prelude.{Bool, is_some, Option, Some, None, Ok, Err}
use Rattle.mse_outside.specs.Outside.{SinkView, Table}
use Rattle.mse_calls.specs.declared.rules.Rule.{Rule}
use Rattle.mse_calls.specs.declared.entry.Entry.{Entry}
use Rattle.run_steps.specs.declared.note.Note.{Note}
use Rattle.mse_engine.specs.State.{State}
use Rattle.mse_engine.specs.Standing.{KeptEngine, Stands}
use Rattle.script_run.specs.declared.stop.Halt.{Halt}
use Rattle.script_run.specs.declared.stop.Halt.TheVariants as halt
use Rattle.listeners.specs.Views.{RunView}
use Rattle.script_run.specs.RunStates.{printed_run}
use Rattle.script_run.specs.Writes.{IsWritten, IsFrontWritten}
use Rattle.mse_commands.specs.declared.ending.End.TheVariants.{Memory, Words}
use Rattle.mse_commands.specs.declared.words.Command.{Command}
use Rattle.mse_commands.specs.Requests.{HasRequestOfCommand, HasRequestOfWords, Request, request_of}
use Rattle.mse_commands.specs.Endings.{end_of_halt}
use Rattle.mse_commands.specs.Outcomes.{outcome, outside_of}
use Rattle.mse_commands.specs.Shown.{file_closing, pieces_by}
use Rattle.mse_commands.specs.Words.{command_of, file_of}
use Rattle.mse_commands.specs.Works.{IsAppended, IsPartAppended, IsFileShowResult, IsRequestDone}
use Rattle.mse_commands.proofs.DoneTasks.{did_nothing}

pub shows_front : (command : Command) (bytes : List ℕ) (a b : RunView) (w : SinkView) → IsPartAppended bytes (pieces_by command (length bytes)) a b → IsFileShowResult command bytes (printed_run a w) (printed_run b w) (Err Memory)
shows_front command bytes a b w p = inl (p, refl)

pub shows_all : (command : Command) (bytes : List ℕ) (a b : RunView) (w0 w1 : SinkView) (broken : Bool) → IsAppended bytes (pieces_by command (length bytes)) a b
    → ((st : State) → Stands b.engine st → IsWritten (file_closing command (length bytes) st) w0 w1)
    → ((st : State) → Stands b.engine st → broken ≡ is_some st.source.fault) → IsFileShowResult command bytes (printed_run a w0) (printed_run b w1) (Ok broken)
shows_all command bytes a b w0 w1 broken p wrote broken_is = record { appended = p; shown = record { wrote = wrote }; broken_is = broken_is }

pub shows_half : (command : Command) (bytes : List ℕ) (a b : RunView) (w0 w1 : SinkView) (h : Halt) → IsAppended bytes (pieces_by command (length bytes)) a b
    → ((st : State) → Stands b.engine st → IsFrontWritten (file_closing command (length bytes) st) w0 w1) → IsFileShowResult command bytes (printed_run a w0) (printed_run b w1) (Err (end_of_halt h))
shows_half command bytes a b w0 w1 halt.Memory p wrote = inr (p, wrote)
shows_half command bytes a b w0 w1 halt.Write p wrote = inr (p, wrote)

-- ---- what was asked for

-- what holds of the request of a command holds of that of the words that ask for it
pub asked_by : (table : Option Table) (words : List (List ℕ)) (name : List ℕ) (o : Option Command) (P : Request → Type 0) → name ≡ file_of words → o ≡ command_of words → HasRequestOfCommand table name o P
    → HasRequestOfWords table words P
asked_by table words name o P is are p = subst (λ (x : Option Command). HasRequestOfCommand table (file_of words) x P) are (subst (λ (x : List ℕ). HasRequestOfCommand table x o P) is p)

no_command : (table : Option Table) (count f : ℕ) (name : List ℕ) (w : SinkView) (notes : List (List Note)) (rules : List (List Rule))
    → HasRequestOfCommand table name None (λ request. IsRequestDone count request (outcome [] None (outside_of f w notes rules) (outside_of f w notes rules)) (Err Words))
no_command None count f name w notes rules = (record { files = λ x. None; names = []; task = Err Words }, (refl, refl), (did_nothing f f w notes rules, refl))
no_command (Some files) count f name w notes rules = (request_of files name None, refl, (did_nothing f f w notes rules, refl))

pub no_words : (table : Option Table) (count f : ℕ) (words : List (List ℕ)) (entries : List Entry) (engine : Option KeptEngine) (w : SinkView) (notes : List (List Note)) (rules : List (List Rule))
    → None ≡ command_of words → entries ≡ [] → engine ≡ None
    → HasRequestOfWords table words (λ request. IsRequestDone count request (outcome entries engine (outside_of f w notes rules) (outside_of f w notes rules)) (Err Words))
no_words table count f words entries engine w notes rules none empty nothing =
    rw (empty, nothing) (asked_by table words (file_of words) None (λ request. IsRequestDone count request (outcome [] None (outside_of f w notes rules) (outside_of f w notes rules)) (Err Words)) refl none
    (no_command table count f (file_of words) w notes rules))
