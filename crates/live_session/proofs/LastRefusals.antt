-- The last entry of a journal behind a step tells whether its call was refused.
use Rattle.std.proofs.Common.{◌≡◌, ◌∙◌, ◌-◌, ℕ, suc, List, [], ◌∷◌, ◌++◌, length, refl, sym, ap, arith}
use Rattle.std.specs.Prelude.{None, option_and_then, slice_get}
use Rattle.mse_calls.specs.declared.entry.Entry.{Entry}
use Rattle.mse_calls.specs.declared.entry.Entry.TheVariants.{Step, Script, Listener, Fired, Work, Element}
use Rattle.call_script.specs.declared.script.StepLine.{StepLine}
use Rattle.call_script.specs.declared.script.StepLine.TheVariants as step
use Rattle.mse_engine.specs.State.{State}
use Rattle.mse_engine.specs.Work.{after_element_turn, after_work, fire_result}
use Rattle.mse_engine.specs.Run.{entries_if, fire_entries}
use Rattle.cut_law.specs.Plays.{drain_entries, line_entries}
use Rattle.live_session.specs.Steps.{last_refusal, refusal_of_entry, step_refusal}
use Rattle.live_session.proofs.OwnBytes.{AreNoCalls, fire_no_calls, turn_no_calls, whole_drain_no_calls, work_no_calls}

-- where others come behind the first entry, it does not matter
without_first : (x y : Entry) (es : List Entry) → last_refusal (x ∷ y ∷ es) ≡ last_refusal (y ∷ es)
without_first x y es =
    let whole : length (x ∷ y ∷ es) - 1 ≡ suc (length es) = omega arith in
    let rest : length (y ∷ es) - 1 ≡ length es = omega arith in
    ap (λ (n : ℕ). option_and_then refusal_of_entry (slice_get (x ∷ y ∷ es) n)) whole
    ∙ sym (ap (λ (n : ℕ). option_and_then refusal_of_entry (slice_get (y ∷ es) n)) rest)

-- nor do those before
behind : (before : List Entry) (e : Entry) (es : List Entry) → last_refusal (before ++ e ∷ es) ≡ last_refusal (e ∷ es)
behind [] e es = refl
behind (x ∷ []) e es = without_first x e es
behind (x ∷ y ∷ before) e es = without_first x y (before ++ e ∷ es) ∙ behind (y ∷ before) e es

none_refused : (e : Entry) (es : List Entry) → refusal_of_entry e ≡ None → AreNoCalls es → last_refusal (e ∷ es) ≡ None
none_refused e [] r n = r
none_refused e (Step k ∷ es) r n = without_first e (Step k) es ∙ none_refused (Step k) es refl n
none_refused e (Script c answer ∷ es) r n = absurd n
none_refused e (Listener w c answer ∷ es) r n = absurd n
none_refused e (Fired event ∷ es) r n = without_first e (Fired event) es ∙ none_refused (Fired event) es refl n
none_refused e (Work k ∷ es) r n = without_first e (Work k) es ∙ none_refused (Work k) es refl n
none_refused e (Element ∷ es) r n = without_first e Element es ∙ none_refused Element es refl n

-- that of the entries of a step
of_step : (blobs : List (List ℕ)) (st : State) (line : StepLine) → last_refusal (Step 0 ∷ line_entries blobs st line) ≡ step_refusal blobs st line
of_step blobs st (step.Call c) = refl
of_step blobs st step.Fire = none_refused (Step 0) (fire_entries (fire_result st)) refl (fire_no_calls (fire_result st))
of_step blobs st (step.Work k) = none_refused (Step 0) (entries_if (after_work k st) (Work k)) refl (work_no_calls (after_work k st) k)
of_step blobs st step.Element = none_refused (Step 0) (entries_if (after_element_turn st) Element) refl (turn_no_calls (after_element_turn st))
of_step blobs st step.Drain = none_refused (Step 0) (drain_entries blobs st) refl (whole_drain_no_calls blobs st)

pub step_refused : (before : List Entry) (blobs : List (List ℕ)) (st : State) (line : StepLine) → last_refusal (before ++ Step 0 ∷ line_entries blobs st line) ≡ step_refusal blobs st line
step_refused before blobs st line = behind before (Step 0) (line_entries blobs st line) ∙ of_step blobs st line
