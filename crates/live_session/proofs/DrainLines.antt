-- A drain as lines of which each is the next one.
use Rattle.std.proofs.Common.{◌≡◌, ◌≢◌, ◌∙◌, ne_eqb, ℕ, Bool, true, false, List, [], ◌∷◌, length, refl, sym, ap, subst, arith}
use Rattle.std.specs.Prelude.{Option, Some, None, not, ◌==◌, option_map, slice_get}
use Rattle.mse_calls.specs.declared.events.Event.{Event}
use Rattle.mse_calls.specs.declared.entry.Entry.{Entry}
use Rattle.mse_calls.specs.declared.entry.Entry.TheVariants.{Step, Script, Listener, Fired, Work, Element}
use Rattle.call_script.specs.declared.script.StepLine.{StepLine}
use Rattle.call_script.specs.declared.script.StepLine.TheVariants as step
use Rattle.mse_engine.specs.State.{State}
use Rattle.mse_engine.specs.Work.{after_element_turn, after_work, has_event_in, is_turn_due, running_in, without_first}
use Rattle.mse_engine.specs.Run.{after_entries, fire_entries}
use Rattle.script_run.specs.DrainSteps.{AreInDrainOrder, IsAtRest}
use Rattle.script_run.specs.Turns.{calls_in}
use Rattle.cut_law.specs.Plays.{after_entry, drain_entries, line_entries}
use Rattle.cut_law.proofs.DrainEnds.{turn-holds, work-holds}
use Rattle.cut_law.proofs.Singles.{line-done}
use Rattle.live_session.specs.Next.{AreNextLines, line_by, next_line}
use Rattle.live_session.proofs.NextLines.{one_if}

-- lines of which each is the next one, until there is none
pub record HasNextLines (blobs : List (List ℕ)) (st : State) : Type 0 where
  pub lines : List StepLine
  pub next : AreNextLines blobs st lines

next_is : (st : State) (waits : Bool) (running : Option ℕ) (due : Bool) → has_event_in st ≡ waits → running_in st ≡ running → is_turn_due st ≡ due → next_line st ≡ line_by waits running due
next_is st waits running due w r d =
    ap (λ (b : Bool). line_by b (running_in st) (is_turn_due st)) w
    ∙ ap (λ (k : Option ℕ). line_by waits k (is_turn_due st)) r
    ∙ ap (λ (b : Bool). line_by waits running b) d

waits : (queue : List Event) (event : Event) → slice_get queue 0 ≡ Some event → not (length queue == 0) ≡ true
waits [] event first = absurd (cc)
waits (x ∷ events) event first =
    let other : length (x ∷ events) ≢ 0 = λ z. omega (arith, z) in
    ap not (ne_eqb (length (x ∷ events)) 0 other)

none_waits : (queue : List Event) → queue ≡ [] → not (length queue == 0) ≡ false
none_waits queue none = ap (λ (events : List Event). not (length events == 0)) none

-- a line with one entry, and lines behind it
line_then : (blobs : List (List ℕ)) (st : State) (line : StepLine) (entry : Entry) → next_line st ≡ Some line → line_entries blobs st line ≡ entry ∷ [] → HasNextLines blobs (after_entry blobs st entry) → HasNextLines blobs st
line_then blobs st line entry next same later = record {
  lines = line ∷ later.lines;
  next = (next, subst (λ (es : List Entry). AreNextLines blobs (after_entries blobs st es) later.lines) (sym same) later.next);
}

as_lines : (entries : List Entry) (blobs : List (List ℕ)) (st : State) → AreInDrainOrder blobs st entries → IsAtRest (after_entries blobs st entries) → calls_in entries ≡ 0 → HasNextLines blobs st
as_lines [] blobs st order end silent = record { lines = []; next = next_is st false None false (none_waits st.element.queue end.quiet.queue) end.quiet.running end.due }
as_lines (Fired event ∷ entries) blobs st order end silent =
    line_then blobs st step.Fire (Fired event) (next_is st true (running_in st) (is_turn_due st) (waits st.element.queue event order.0) refl refl)
    (ap (λ (o : Option Event). fire_entries (option_map (λ (event : Event). record { answer = event; state = without_first st }) o)) order.0) (as_lines entries blobs (after_entry blobs st (Fired event)) order.1 end silent)
as_lines (Work k ∷ entries) blobs st order end silent =
    line_then blobs st (step.Work k) (Work k) (next_is st false (Some k) (is_turn_due st) (none_waits st.element.queue order.0.0) order.0.1 refl) (one_if (after_work k st) st (Work k) (work-holds st k order.0.1))
    (as_lines entries blobs (after_entry blobs st (Work k)) order.1 end silent)
as_lines (Element ∷ entries) blobs st order end silent =
    line_then blobs st step.Element Element (next_is st false None true (none_waits st.element.queue order.0.0.queue) order.0.0.running order.0.1) (one_if (after_element_turn st) st Element (turn-holds st order.0.1))
    (as_lines entries blobs (after_entry blobs st Element) order.1 end silent)
as_lines (Listener w call answer ∷ entries) blobs st order end silent = absurd (omega (arith, silent))
as_lines (Step n ∷ entries) blobs st order end silent = absurd order.0
as_lines (Script call answer ∷ entries) blobs st order end silent = absurd order.0

pub drain_lines : (blobs : List (List ℕ)) (st : State) → HasNextLines blobs st
drain_lines blobs st =
    let d = line-done blobs st step.Drain in
    as_lines (drain_entries blobs st) blobs st d.does.order d.does.end d.quiet
