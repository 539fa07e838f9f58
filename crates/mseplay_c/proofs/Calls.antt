-- What a call leaves of a run in memory.
use Rattle.std.proofs.Common.{◌≡◌, ◌≢◌, ℕ, List, [], arith, inr, refl, subst, length}
use Rattle.std.specs.Prelude.{Result, Ok, Err, IfOk}
use Rattle.std.specs.List.{concat}
use Rattle.std.proofs.Math.Seq.{take-nil}
use Rattle.mse_outside.specs.Memory.{Files, table_of}
use Rattle.mse_outside.specs.Outside.{HasRisen}
use Rattle.mse_commands.specs.declared.ending.Status.{Status}
use Rattle.mse_commands.specs.declared.ending.Status.TheVariants as status
use Rattle.mse_commands.specs.Endings.{status_number}
use Rattle.mse_commands.specs.Program.{Output, by_rules, program_of}
use Rattle.rule_run.specs.Texts.{IsTextBy}
use Rattle.mseplay_c.specs.Calls.{IsCall}

-- a count that stays at 0
zero_stays : ¬ HasRisen 0 0
zero_stays h = omega (arith, h)

-- no load fails, so the text is that of the program
pub given_text : {A E : Type 0} (r : Result A E) (text : A → List ℕ) (end : A → Status) (library files : Files) (words given : List (List ℕ)) → library ≡ files → words ≡ given
    → IfOk r (λ made. ¬ HasRisen 0 0 → IsTextBy (program_of (by_rules 16) (table_of library) words) (text made) (end made))
    → IfOk r (λ made. IsTextBy (program_of (by_rules 16) (table_of files) given) (text made) (end made))
given_text (Ok made) text end library files words given same_files same_words printed =
    subst (λ (ws : List (List ℕ)). IsTextBy (program_of (by_rules 16) (table_of files) ws) (text made) (end made)) same_words
    (subst (λ (fs : Files). IsTextBy (program_of (by_rules 16) (table_of fs) words) (text made) (end made)) same_files (printed zero_stays))
given_text (Err e) text end library files words given same_files same_words printed = tt

-- nor does a load or a put fail, so the status is that of neither
pub given_end : {A E : Type 0} (r : Result A E) (end : A → Status) (P : A → Type 0) → IfOk r P → IfOk r (λ made. end made ≢ status.Write) → ((made : A) → P made → end made ≡ status.Read → HasRisen 0 0)
    → IfOk r (λ made. (end made ≢ status.Read) × (end made ≢ status.Write))
given_end (Ok made) end P run no_failed_put read = (λ e. zero_stays (read made run e), no_failed_put)
given_end (Err e) end P run no_failed_put read = tt

-- without memory for a run nothing is printed
pub no_run : (output : Output) (answer : ℕ) (room : List ℕ) → answer ≡ status_number status.Memory → IsCall output answer 0 room room
no_run output answer room is = record {
  text = [];
  end = status.Memory;
  printed = inr (refl, (concat output.lines, refl));
  no_failure = (λ e. absurd (cc), λ e. absurd (cc));
  number = is;
  count = refl;
  room = rw (take-nil (length room)) refl;
}
