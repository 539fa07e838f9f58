-- The step of a line, by whether the line is UTF-8.
use Rattle.std.proofs.Common.{◌≡◌, ◌∙◌, ℕ, Bool, true, false, List, refl, sym, ap}
use Rattle.std.specs.Prelude.{Option, None, Result, Ok, Err, IfOk, if◌then◌else◌}
use Rattle.std.specs.Str.{IsUtf8, is_utf8}
use Rattle.std.proofs.lemmas.Str.{IsUtf8-from_is_utf8, is_utf8-from_IsUtf8}
use Rattle.call_script.specs.Lines.{step_of_line}
use Rattle.call_script.specs.declared.script.StepLine.{StepLine}
use Rattle.live_session.specs.Lives.{step_in}

abbrev step_if : List ℕ → Bool → Option StepLine
step_if bytes text = if text then step_of_line bytes else None

pub step_of_text : {E : Type 0} (bytes text : List ℕ) (read : Result (Option StepLine) E) → text ≡ bytes → IsUtf8 bytes → IfOk read (λ step. step ≡ step_of_line text) → IfOk read (λ step. step ≡ step_in bytes)
step_of_text bytes text (Ok found) same valid is = is ∙ ap step_of_line same ∙ sym (ap (step_if bytes) (is_utf8-from_IsUtf8 bytes valid))
step_of_text bytes text (Err e) same valid is = tt

none_if : (bytes : List ℕ) (text : Bool) → ¬ (text ≡ true) → None ≡ step_if bytes text
none_if bytes true not = absurd (not refl)
none_if bytes false not = refl

pub step_of_no_text : (bytes : List ℕ) → ¬ IsUtf8 bytes → None ≡ step_in bytes
step_of_no_text bytes not = none_if bytes (is_utf8 bytes) (λ e. not (IsUtf8-from_is_utf8 bytes e))
