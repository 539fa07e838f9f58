-- Lines of which each is the next one are a drain.
use Rattle.std.proofs.Common.{◌≡◌, ◌≢◌, ◌∙◌, ne_eqb, ℕ, Bool, true, false, List, [], ◌∷◌, ◌++◌, length, refl, sym, ap, subst, arith}
use Rattle.std.specs.Prelude.{Option, Some, None, not, ◌==◌, option_map, slice_get}
use Rattle.mse_calls.specs.declared.events.Event.{Event}
use Rattle.mse_calls.specs.declared.entry.Entry.{Entry}
use Rattle.mse_calls.specs.declared.entry.Entry.TheVariants.{Fired, Work, Element}
use Rattle.call_script.specs.declared.script.StepLine.{StepLine}
use Rattle.call_script.specs.declared.script.StepLine.TheVariants as step
use Rattle.mse_engine.specs.State.{State}
use Rattle.mse_engine.specs.Work.{after_element_turn, after_work, has_event_in, is_turn_due, running_in, without_first}
use Rattle.mse_engine.specs.Run.{after_entries, entries_if, fire_entries, step_meaning}
use Rattle.mse_engine.proofs.Transitions.{after_entries-append}
use Rattle.script_run.specs.DrainSteps.{AreInDrainOrder, IsAtRest, IsNextStep}
use Rattle.script_run.specs.Turns.{calls_in}
use Rattle.script_run.proofs.ListenerTurns.{calls_in-append}
use Rattle.cut_law.specs.Plays.{after_entry, after_line, drain_entries, line_entries}
use Rattle.cut_law.proofs.DrainEnds.{turn-holds, work-holds}
use Rattle.cut_law.proofs.Singles.{quiet-drain}
use Rattle.live_session.specs.Next.{AreNextLines, after_lines, entries_of_lines, line_by}

-- the line has one entry, which is what a drain does next
record IsNextOf (blobs : List (List ℕ)) (st : State) (line : StepLine) : Type 0 where
  entry : Entry
  entries_are : line_entries blobs st line ≡ entry ∷ []
  next : IsNextStep st entry
  silent : calls_in (entry ∷ []) ≡ 0

first_event : (queue : List Event) → not (length queue == 0) ≡ true → (event : Event) × (slice_get queue 0 ≡ Some event)
first_event [] e = absurd (cc)
first_event (event ∷ events) e = (event, refl)

no_event : (queue : List Event) → not (length queue == 0) ≡ false → queue ≡ []
no_event [] e = refl
no_event (event ∷ events) e =
    let other : length (event ∷ events) ≢ 0 = λ z. omega (arith, z) in
    let never : true ≡ false = sym (ap not (ne_eqb (length (event ∷ events)) 0 other)) ∙ e in
    absurd (cc)

pub one_if : (o : Option State) (st : State) (x : Entry) → (step_meaning o st).holds → entries_if o x ≡ x ∷ []
one_if None st x h = absurd h
one_if (Some new) st x h = refl

next_by : (waits : Bool) (running : Option ℕ) (due : Bool) (blobs : List (List ℕ)) (st : State) (line : StepLine) → has_event_in st ≡ waits → running_in st ≡ running → is_turn_due st ≡ due → line_by waits running due ≡ Some line
    → IsNextOf blobs st line
next_by true running due blobs st line w r d e =
    let f = first_event st.element.queue w in
    let same : step.Fire ≡ line = cc in
    subst (λ (l : StepLine). IsNextOf blobs st l) same
    (record {
      entry = Fired f.0;
      entries_are = ap (λ (o : Option Event). fire_entries (option_map (λ (event : Event). record { answer = event; state = without_first st }) o)) f.1;
      next = f.1;
      silent = refl;
    })
next_by false (Some k) due blobs st line w r d e =
    let same : step.Work k ≡ line = cc in
    subst (λ (l : StepLine). IsNextOf blobs st l) same
    (record { entry = Work k; entries_are = one_if (after_work k st) st (Work k) (work-holds st k r); next = (no_event st.element.queue w, r); silent = refl })
next_by false None true blobs st line w r d e =
    let same : step.Element ≡ line = cc in
    subst (λ (l : StepLine). IsNextOf blobs st l) same
    (record {
      entry = Element;
      entries_are = one_if (after_element_turn st) st Element (turn-holds st d);
      next = (record { queue = no_event st.element.queue w; running = r }, d);
      silent = refl;
    })
next_by false None false blobs st line w r d e = absurd (cc)

rest_by : (waits : Bool) (running : Option ℕ) (due : Bool) (st : State) → has_event_in st ≡ waits → running_in st ≡ running → is_turn_due st ≡ due → line_by waits running due ≡ None → IsAtRest st
rest_by true running due st w r d e = absurd (cc)
rest_by false (Some k) due st w r d e = absurd (cc)
rest_by false None true st w r d e = absurd (cc)
rest_by false None false st w r d e = record { quiet = record { queue = no_event st.element.queue w; running = r }; due = d }

-- a drain in which nobody calls
record IsCalmDrain (blobs : List (List ℕ)) (st : State) (entries : List Entry) : Type 0 where
  order : AreInDrainOrder blobs st entries
  end : IsAtRest (after_entries blobs st entries)
  silent : calls_in entries ≡ 0

calm : (lines : List StepLine) (blobs : List (List ℕ)) (st : State) → AreNextLines blobs st lines → IsCalmDrain blobs st (entries_of_lines blobs st lines)
calm [] blobs st none = record { order = tt; end = rest_by (has_event_in st) (running_in st) (is_turn_due st) st refl refl refl none; silent = refl }
calm (line ∷ lines) blobs st all =
    let h = next_by (has_event_in st) (running_in st) (is_turn_due st) blobs st line refl refl refl all.0 in
    let later : IsCalmDrain blobs (after_entry blobs st h.entry) (entries_of_lines blobs (after_entry blobs st h.entry) lines) =
    calm lines blobs (after_entry blobs st h.entry) (subst (λ (es : List Entry). AreNextLines blobs (after_entries blobs st es) lines) h.entries_are all.1) in
    let whole : IsCalmDrain blobs st (h.entry ∷ entries_of_lines blobs (after_entry blobs st h.entry) lines) = record {
      order = (h.next, later.order);
      end = later.end;
      silent = omega (arith, h.silent, later.silent, calls_in-append (h.entry ∷ []) (entries_of_lines blobs (after_entry blobs st h.entry) lines));
    } in
    subst (λ (es : List Entry). IsCalmDrain blobs st (es ++ entries_of_lines blobs (after_entries blobs st es) lines)) (sym h.entries_are) whole

pub next_lines_drain : (blobs : List (List ℕ)) (st : State) (lines : List StepLine) → AreNextLines blobs st lines → entries_of_lines blobs st lines ≡ drain_entries blobs st
next_lines_drain blobs st lines all =
    let d = calm lines blobs st all in
    quiet-drain blobs st (entries_of_lines blobs st lines) (record { order = d.order; end = d.end }) d.silent

behind_lines : (lines : List StepLine) (blobs : List (List ℕ)) (st : State) → after_lines blobs st lines ≡ after_entries blobs st (entries_of_lines blobs st lines)
behind_lines [] blobs st = refl
behind_lines (line ∷ lines) blobs st = behind_lines lines blobs (after_line blobs st line) ∙ sym (after_entries-append blobs st (line_entries blobs st line) (entries_of_lines blobs (after_line blobs st line) lines))

pub behind_drain : (blobs : List (List ℕ)) (st : State) (lines : List StepLine) → AreNextLines blobs st lines → after_lines blobs st lines ≡ after_line blobs st step.Drain
behind_drain blobs st lines all = behind_lines lines blobs st ∙ ap (λ (es : List Entry). after_entries blobs st es) (next_lines_drain blobs st lines all)
