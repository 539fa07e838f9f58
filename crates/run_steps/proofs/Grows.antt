-- What happened stays, how a run is set stays, and a run that has ended is the only one.
use Rattle.std.proofs.Common.{◌≡◌, ℕ, zero, suc, ◌+◌, Bool, true, false, List, [], ◌∷◌, ◌++◌, refl, ap, sym, ◌∙◌, arith, inl, inr, append_assoc, ◌⊎◌}
use Rattle.std.specs.Prelude.{Option, Some, None, slice_get, slice_index_or}
use Rattle.std.proofs.lemmas.List.{append-nil}
use Rattle.mse_calls.specs.AnswerAndState.{AnswerAndState}
use Rattle.mse_calls.specs.declared.calls.Call.{Call}
use Rattle.mse_calls.specs.declared.calls.Piece.{Piece}
use Rattle.mse_calls.specs.declared.entry.Entry.{Entry}
use Rattle.mse_calls.specs.declared.entry.Entry.TheVariants.{Step, Fired, Work, Element}
use Rattle.mse_calls.specs.declared.events.Event.{Event}
use Rattle.mse_calls.specs.declared.views.FaultView.{FaultView}
use Rattle.call_script.specs.declared.script.StepLine.{StepLine}
use Rattle.call_script.specs.declared.script.StepLine.TheVariants as step
use Rattle.mse_engine.specs.State.{State}
use Rattle.mse_engine.specs.Work.{after_work, after_element_turn, fire_result, is_turn_due, running_in}
use Rattle.run_steps.specs.declared.note.Note.TheVariants.{Heard, Made, Told, Rested}
use Rattle.run_steps.specs.Happenings.{Did, Noted, Put}
use Rattle.run_steps.specs.Steps.{Run, Todo, Line, Do, Hear, Ask, Make, Tell, Show, Append, Close, Print, Ended, appends, asked, call_by, does_if, drains, fires, hears, line_done, makes, prints, run_for, step_of, step_by, stepped, Reaches}
use Rattle.run_steps.specs.Ways.{Way}
use Rattle.run_steps.specs.Laws.{IsFrontOf, HasEnded}

-- what happened is a front, and how it is set is the same
abbrev Grows : Run → Run → Type 0
Grows a b = IsFrontOf a.happened b.happened × (b.setting ≡ a.setting)

none : (r : Run) → Grows r r
none r = (([], sym (append-nil r.happened)), refl)

if_grows : (r : Run) (entry : Entry) (o : Option State) (todo : List Todo) → Grows r (does_if r entry o todo)
if_grows r entry None todo = none r
if_grows r entry (Some st) todo = ((Did entry ∷ [], refl), refl)

fires_grows : (r : Run) (o : Option (AnswerAndState Event State)) (todo : List Todo) → Grows r (fires r o todo)
fires_grows r None todo = none r
fires_grows r (Some fired) todo = ((Did (Fired fired.answer) ∷ [], refl), refl)

drains_grows : (r : Run) (events : List Event) (running : Option ℕ) (due : Bool) (todo : List Todo) → Grows r (drains r events running due todo)
drains_grows r (event ∷ events) running due todo = none r
drains_grows r [] (Some k) due todo = if_grows r (Work k) (after_work k r.state) (Do step.Drain ∷ todo)
drains_grows r [] None true todo = if_grows r Element (after_element_turn r.state) (Do step.Drain ∷ todo)
drains_grows r [] None false todo = none r

line_grows : (r : Run) (line : StepLine) (todo : List Todo) → Grows r (line_done r line todo)
line_grows r (step.Call call) todo = ((_ ∷ [], refl), refl)
line_grows r step.Fire todo = fires_grows r (fire_result r.state) todo
line_grows r (step.Work k) todo = if_grows r (Work k) (after_work k r.state) todo
line_grows r step.Element todo = if_grows r Element (after_element_turn r.state) todo
line_grows r step.Drain todo = drains_grows r r.state.element.queue (running_in r.state) (is_turn_due r.state) todo

hears_grows : (r : Run) (event : Event) (w : ℕ) (o : Option Way) (todo : List Todo) → Grows r (hears r event w o todo)
hears_grows r event w None todo = none r
hears_grows r event w (Some way) todo = ((Noted w (Heard event) ∷ [], refl), refl)

asked_grows : (r : Run) (w n : ℕ) (o : Option Call) (todo : List Todo) → Grows r (asked r w n o todo)
asked_grows r w n None todo = ((Noted w Rested ∷ [], refl), refl)
asked_grows r w n (Some call) todo = ((Noted w (Made call) ∷ [], refl), refl)

makes_grows : (r : Run) (w n left : ℕ) (call : Call) (todo : List Todo) → Grows r (makes r w n left call todo)
makes_grows r w zero left call todo = none r
makes_grows r w (suc n) zero call todo = none r
makes_grows r w (suc n) (suc left) call todo = ((_ ∷ [], refl), refl)

prints_grows : (r : Run) (lines : List (List ℕ)) (todo : List Todo) → Grows r (prints r lines todo)
prints_grows r [] todo = none r
prints_grows r (line ∷ lines) todo = ((Put line ∷ [], refl), refl)

appends_grows : (r : Run) (fault : Option FaultView) (pieces : List Piece) (todo : List Todo) → Grows r (appends r fault pieces todo)
appends_grows r None [] todo = none r
appends_grows r None (piece ∷ pieces) todo = none r
appends_grows r (Some fault) pieces todo = none r

by_todo : (ways : List Way) (r : Run) (next : Todo) (todo : List Todo) → Grows r (step_by ways r next todo)
by_todo ways r (Line n line) todo = ((Did (Step n) ∷ [], refl), refl)
by_todo ways r (Do line) todo = line_grows r line todo
by_todo ways r (Hear event w) todo = hears_grows r event w (slice_get ways w) todo
by_todo ways r (Ask w n) todo = asked_grows r w n (call_by r w (slice_index_or ways w (λ rules notes. None))) todo
by_todo ways r (Make w n call) todo = makes_grows r w n r.left call todo
by_todo ways r (Tell w n answer) todo = ((Noted w (Told answer) ∷ [], refl), refl)
by_todo ways r Show todo = none r
by_todo ways r (Append pieces) todo = appends_grows r r.state.source.fault pieces todo
by_todo ways r (Close reason) todo = none r
by_todo ways r (Print lines) todo = prints_grows r lines todo
by_todo ways r (Ended status) todo = none r

one_grows : (ways : List Way) (r : Run) (todo : List Todo) → Grows r (step_of ways r todo)
one_grows ways r [] = none r
one_grows ways r (next ∷ todo) = by_todo ways r next todo

pub grows : (n : ℕ) (ways : List Way) (r : Run) → Grows r (run_for n ways r)
grows zero ways r = none r
grows (suc n) ways r =
    let a = one_grows ways r r.todo in
    let b = grows n ways (stepped ways r) in
    ((a.0.0 ++ b.0.0, b.0.1 ∙ ap (λ h. h ++ b.0.0) a.0.1 ∙ append_assoc r.happened a.0.0 b.0.0), b.1 ∙ a.1)

-- where steps led to, the run is set as before
pub set_alike : (ways : List Way) (a b : Run) → Reaches ways a b → b.setting ≡ a.setting
set_alike ways a b p = ap (λ (x : Run). x.setting) (sym p.1) ∙ (grows p.0 ways a).1

pub steps_then : (n m : ℕ) (ways : List Way) (r : Run) → run_for (n + m) ways r ≡ run_for m ways (run_for n ways r)
steps_then zero m ways r = let e : 0 + m ≡ m = omega arith in ap (λ x. run_for x ways r) e
steps_then (suc n) m ways r = let e : suc n + m ≡ suc (n + m) = omega arith in ap (λ x. run_for x ways r) e ∙ steps_then n m ways (stepped ways r)

-- ---- the end

ended_step : (ways : List Way) (r : Run) (status : ℕ) → r.todo ≡ Ended status ∷ [] → stepped ways r ≡ r
ended_step ways r status e = ap (step_of ways r) e

pub ended_stays : (n : ℕ) (ways : List Way) (r : Run) → HasEnded r → run_for n ways r ≡ r
ended_stays zero ways r h = refl
ended_stays (suc n) ways r h = ap (run_for n ways) (ended_step ways r h.0 h.1) ∙ ended_stays n ways r h

more_steps : (n m k : ℕ) (ways : List Way) (r : Run) → m ≡ n + k → HasEnded (run_for n ways r) → run_for m ways r ≡ run_for n ways r
more_steps n m k ways r e h = ap (λ x. run_for x ways r) e ∙ steps_then n k ways r ∙ ended_stays k ways (run_for n ways r) h

pub one_end : (n m : ℕ) (ways : List Way) (r : Run) → HasEnded (run_for n ways r) → HasEnded (run_for m ways r) → run_for n ways r ≡ run_for m ways r
one_end n m ways r a b = elim (compare n m) [
  | inl p ↦ sym (more_steps n m p.0 ways r p.1 a)
  | inr p ↦ more_steps m n p.0 ways r p.1 b
]
  where
    compare : (x y : ℕ) → ((k : ℕ) × (y ≡ x + k)) ⊎ ((k : ℕ) × (x ≡ y + k))
    compare zero y = inl (y, omega arith)
    compare (suc x) zero = inr (suc x, omega arith)
    compare (suc x) (suc y) = elim (compare x y) [ inl p ↦ inl (p.0, omega (arith, p.1)) | inr p ↦ inr (p.0, omega (arith, p.1)) ]
