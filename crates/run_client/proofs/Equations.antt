-- What is printed, by an equation for what the program comes to.
use Rattle.std.proofs.Common.{◌≡◌, ℕ, List, arith, subst}
use Rattle.std.specs.Prelude.{Result, Ok, Err, IfOk}
use Rattle.mse_outside.specs.Memory.{Files, table_of}
use Rattle.mse_outside.specs.Outside.{HasRisen}
use Rattle.mse_commands.specs.declared.ending.Status.{Status}
use Rattle.mse_commands.specs.Program.{Output, by_rules, program_of}
use Rattle.program_law.specs.Inputs.{output_on}
use Rattle.rule_run.specs.Texts.{IsTextBy}

-- a count that stays at 0
zero_stays : ¬ HasRisen 0 0
zero_stays h = omega (arith, h)

-- no load fails, so the text is that of the program, with the library and the words that are known
pub known_text : {A E : Type 0} (r : Result A E) (text : A → List ℕ) (end : A → Status) (library files : Files) (words given : List (List ℕ)) → library ≡ files → words ≡ given
    → IfOk r (λ made. ¬ HasRisen 0 0 → IsTextBy (program_of (by_rules 16) (table_of library) words) (text made) (end made))
    → IfOk r (λ made. IsTextBy (program_of (by_rules 16) (table_of files) given) (text made) (end made))
known_text (Ok made) text end library files words given same_files same_words printed =
    subst (λ (ws : List (List ℕ)). IsTextBy (program_of (by_rules 16) (table_of files) ws) (text made) (end made)) same_words
    (subst (λ (fs : Files). IsTextBy (program_of (by_rules 16) (table_of fs) words) (text made) (end made)) same_files (printed zero_stays))
known_text (Err e) text end library files words given same_files same_words printed = tt

-- of a file that is known, the text is that of the equation for it
pub text_by_equation : {A E : Type 0} (r : Result A E) (text : A → List ℕ) (end : A → Status) (command file known : List ℕ) (output : Output) → output_on command known ≡ output → file ≡ known
    → IfOk r (λ made. IsTextBy (output_on command file) (text made) (end made))
    → IfOk r (λ made. IsTextBy output (text made) (end made))
text_by_equation r text end command file known output equation is_known printed =
    subst (λ (o : Output). IfOk r (λ made. IsTextBy o (text made) (end made))) equation
    (subst (λ (bytes : List ℕ). IfOk r (λ made. IsTextBy (output_on command bytes) (text made) (end made))) is_known printed)
