-- Dispatches that were cut, and calls that are left.
use Rattle.std.proofs.Common.{◌≡◌, ℕ, suc, List, [], ◌∷◌, ◌++◌, length, refl, sym, ◌∙◌, ap, append_assoc, inl, inr}
use Rattle.std.specs.Prelude.{Option, Some, None}
use Rattle.mse_calls.specs.AnswerAndState.{AnswerAndState}
use Rattle.mse_calls.specs.declared.events.Event.{Event}
use Rattle.mse_calls.specs.declared.entry.Entry.{Entry}
use Rattle.mse_calls.specs.declared.entry.Entry.TheVariants as entry
use Rattle.call_script.specs.declared.script.StepLine.{StepLine}
use Rattle.call_script.specs.declared.script.StepLine.TheVariants as step
use Rattle.run_steps.specs.declared.note.Note.{Note}
use Rattle.listeners.specs.declared.event_dispatch.DispatchFault.{DispatchFault}
use Rattle.listeners.specs.Dispatch.{AreCallsInTurn, IsFailedDispatch, dispatch_end}
use Rattle.mse_engine.specs.State.{State}
use Rattle.mse_engine.specs.Run.{entry_meaning, fire_entries, entries_if}
use Rattle.mse_engine.specs.Work.{after_element_turn, after_work, fire_result}
use Rattle.script_run.specs.DrainSteps.{AreInDrainOrder}
use Rattle.script_run.specs.Lines.{IsLineFront, own_of}
use Rattle.script_run.specs.PlayedParts.{IsDispatchCut}
use Rattle.script_run.specs.NoteHistory.{IsAllHeard}
use Rattle.script_run.specs.Turns.{CallsLeft, HasCallsLeft, HasCallsLeftInLine, steps_in}

-- ---- a dispatch that was cut

pub cut_of : (calls_left : CallsLeft) (f : DispatchFault) (event : Event) (calls : List Entry) (left : ℕ) (n0 n1 : List (List Note)) → AreCallsInTurn 0 (length n0) calls
    → calls_left (entry.Fired event ∷ calls) left → length n1 ≡ length n0 → IsAllHeard [] n0 n0 → IsFailedDispatch event (dispatch_end calls left n0 n1) f
    → IsDispatchCut calls_left f (entry.Fired event ∷ calls) n0 n1
cut_of calls_left f event calls left n0 n1 turns left_is count heard p = record {
  before = [];
  event = event;
  calls = calls;
  left = left;
  middle = n0;
  entries_are = refl;
  left_is = left_is;
  heard = heard;
  in_turn = turns;
  count = count;
  end = p;
}

-- ---- lines

-- each number of a line is one of its own entries
own_steps : (es : List Entry) → steps_in es ≡ steps_in (own_of es)
own_steps [] = refl
own_steps (entry.Listener w call answer ∷ es) = own_steps es
own_steps (entry.Step n ∷ es) = ap suc (own_steps es)
own_steps (entry.Script call answer ∷ es) = own_steps es
own_steps (entry.Fired event ∷ es) = own_steps es
own_steps (entry.Work k ∷ es) = own_steps es
own_steps (entry.Element ∷ es) = own_steps es

no_step_fired : (fired : Option (AnswerAndState Event State)) → steps_in (fire_entries fired) ≡ 0
no_step_fired None = refl
no_step_fired (Some f) = refl

no_step_worked : (k : ℕ) (st : Option State) → steps_in (entries_if st (entry.Work k)) ≡ 0
no_step_worked k None = refl
no_step_worked k (Some st) = refl

no_step_turned : (st : Option State) → steps_in (entries_if st entry.Element) ≡ 0
no_step_turned None = refl
no_step_turned (Some st) = refl

no_step_in_order : (blobs : List (List ℕ)) (st : State) (es : List Entry) → AreInDrainOrder blobs st es → steps_in es ≡ 0
no_step_in_order blobs st [] h = refl
no_step_in_order blobs st (entry.Listener w call answer ∷ es) h = no_step_in_order blobs (entry_meaning blobs st (entry.Listener w call answer)).state es h.1
no_step_in_order blobs st (entry.Fired event ∷ es) h = no_step_in_order blobs (entry_meaning blobs st (entry.Fired event)).state es h.1
no_step_in_order blobs st (entry.Work k ∷ es) h = no_step_in_order blobs (entry_meaning blobs st (entry.Work k)).state es h.1
no_step_in_order blobs st (entry.Element ∷ es) h = no_step_in_order blobs (entry_meaning blobs st entry.Element).state es h.1
no_step_in_order blobs st (entry.Step n ∷ es) h = absurd h.0
no_step_in_order blobs st (entry.Script call answer ∷ es) h = absurd h.0

by_own : (es own : List Entry) → own_of es ≡ own → steps_in own ≡ 0 → steps_in es ≡ 0
by_own es own e none = own_steps es ∙ ap steps_in e ∙ none

-- a line has no number of another
pub no_step_in_line : (blobs : List (List ℕ)) (st : State) (line : StepLine) (es : List Entry) → IsLineFront blobs st line es → steps_in es ≡ 0
no_step_in_line blobs st (step.Call call) es (inl e) = ap steps_in e
no_step_in_line blobs st (step.Call call) es (inr e) = by_own es _ e refl
no_step_in_line blobs st step.Fire es (inl e) = ap steps_in e
no_step_in_line blobs st step.Fire es (inr e) = by_own es _ e (no_step_fired (fire_result st))
no_step_in_line blobs st (step.Work k) es (inl e) = ap steps_in e
no_step_in_line blobs st (step.Work k) es (inr e) = by_own es _ e (no_step_worked k (after_work k st))
no_step_in_line blobs st step.Element es (inl e) = ap steps_in e
no_step_in_line blobs st step.Element es (inr e) = by_own es _ e (no_step_turned (after_element_turn st))
no_step_in_line blobs st step.Drain es h = no_step_in_order blobs st es h

-- what is left behind a number is left in its line
pub left_in_line : (limit n : ℕ) (es : List Entry) → steps_in es ≡ 0 → (left : ℕ) → HasCallsLeft limit es left → HasCallsLeftInLine limit (entry.Step n ∷ es) left
left_in_line limit n es one left e = record { front = []; number = n; part = es; entries_are = refl; one_line = one; calls = e }

-- lines before it change nothing
pub left_behind : (limit : ℕ) (xs ys : List Entry) (left : ℕ) → HasCallsLeftInLine limit ys left → HasCallsLeftInLine limit (xs ++ ys) left
left_behind limit xs ys left p = record {
  front = xs ++ p.front;
  number = p.number;
  part = p.part;
  entries_are = ap (λ (x : List Entry). xs ++ x) p.entries_are ∙ sym (append_assoc xs p.front (entry.Step p.number ∷ p.part));
  one_line = p.one_line;
  calls = p.calls;
}
