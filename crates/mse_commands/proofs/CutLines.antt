-- A line that ended at one listener is the one of the play up to there.
use Rattle.std.proofs.Common.{◌≡◌, ℕ, ◌+◌, List, [], ◌∷◌, length, refl, ap, sym, subst, ◌∙◌, arith, inl, inr}
use Rattle.std.specs.Prelude.{Option, Some, None}
use Rattle.mse_calls.specs.AnswerAndState.{AnswerAndState}
use Rattle.mse_calls.specs.declared.events.Event.{Event}
use Rattle.mse_calls.specs.declared.entry.Entry.{Entry}
use Rattle.mse_calls.specs.declared.entry.Entry.TheVariants.{Step, Script, Listener, Fired, Work, Element}
use Rattle.call_script.specs.declared.script.StepLine.{StepLine}
use Rattle.call_script.specs.declared.script.StepLine.TheVariants as step
use Rattle.script_run.specs.declared.stop.Stop.{Stop}
use Rattle.script_run.specs.Lines.{own_of, IsLineEntries, IsLineFront}
use Rattle.script_run.specs.Turns.{calls_in}
use Rattle.mse_engine.specs.State.{State}
use Rattle.mse_engine.specs.Calls.{after_call}
use Rattle.mse_engine.specs.Work.{after_work, after_element_turn, fire_result}
use Rattle.mse_engine.specs.Run.{entry_meaning, fire_meaning, IsReplay, fire_entries, entries_if}
use Rattle.mse_commands.specs.Played.{ListenerState, PlayState, Part, nothing, one_entry, dispatch_from, fire_by, fire, entry_if, line_played}
use Rattle.mse_commands.proofs.Drains.{led, AreEventsServed, whole_part}
use Rattle.mse_commands.proofs.Lines.{only_led, headed, none_led, calls_of_led, fire_line}
use Rattle.mse_commands.proofs.CutDispatches.{IsPartTo, to_behind, none_to, all_to, cut_dispatch}
use Rattle.mse_commands.proofs.CutDrains.{AreServedUntil, one_cut_drain}

-- what is known of the entries of a line that ended so
pub record IsCutLineFrom (blobs : List (List ℕ)) (p : PlayState) (rest : ℕ) (end : Option Stop) (line : StepLine) (es : List Entry) : Type 0 where
  pub front : led es ≡ []
  pub begins : IsLineFront blobs p.state line es
  pub replays : IsReplay blobs p.state es
  pub served : AreServedUntil p.listeners rest end es
  pub left : p.left ≡ rest + calls_in es

-- where nothing happened the play does not stop
pub empty_end : (hs : List ListenerState) (rest : ℕ) (end : Option Stop) (es : List Entry) → es ≡ [] → AreServedUntil hs rest end es → end ≡ None
empty_end hs rest end es e s = subst (λ xs. AreServedUntil hs rest end xs) e s

none_part : (part : Part) (blobs : List (List ℕ)) (p : PlayState) (rest : ℕ) (end : Option Stop) (es : List Entry) → es ≡ [] → AreServedUntil p.listeners rest end es → IsPartTo end part blobs p.state rest es
none_part part blobs p rest end es e s = none_to end part blobs p.state rest es (empty_end p.listeners rest end es e s) e

-- ---- one entry

if_part : (o : Option State) (x : Entry) (blobs : List (List ℕ)) (p : PlayState) (rest : ℕ) (end : Option Stop) (es : List Entry) → own_of es ≡ entries_if o x → led es ≡ []
    → ((xs : List Entry) → AreServedUntil p.listeners rest end (x ∷ xs) → (led xs ≡ []) × AreServedUntil p.listeners rest end xs) → AreServedUntil p.listeners rest end es
    → IsPartTo end (entry_if blobs p x o) blobs p.state rest es
if_part None x blobs p rest end es own front next s = none_part (nothing p) blobs p rest end es (none_led es front own) s
if_part (Some st) x blobs p rest end es own front next s =
    let h = headed es x front own in
    let t = next h.0 (subst (λ xs. AreServedUntil p.listeners rest end xs) h.1 s) in
    let none : h.0 ≡ [] = none_led h.0 t.0 h.2 in
    all_to end (one_entry blobs p x) blobs p.state rest es (empty_end p.listeners rest end h.0 none t.1) (sym (h.1 ∙ ap (λ (xs : List Entry). x ∷ xs) none))

-- ---- an event

-- behind the calls of its listeners nothing is told
led_events : (hs : List ListenerState) (es : List Entry) → led es ≡ es → AreEventsServed hs es
led_events hs [] e = tt
led_events hs (Listener v call answer ∷ es) e = led_events hs es (cc)
led_events hs (Step n ∷ es) e = absurd (cc)
led_events hs (Script call answer ∷ es) e = absurd (cc)
led_events hs (Fired event ∷ es) e = absurd (cc)
led_events hs (Work k ∷ es) e = absurd (cc)
led_events hs (Element ∷ es) e = absurd (cc)

led_end : (hs : List ListenerState) (rest : ℕ) (end : Option Stop) (es : List Entry) → led es ≡ es → AreServedUntil hs rest end es → end ≡ None
led_end hs rest end [] e s = s
led_end hs rest end (Listener v call answer ∷ es) e s = led_end hs rest end es (cc) s
led_end hs rest end (Step n ∷ es) e s = absurd (cc)
led_end hs rest end (Script call answer ∷ es) e s = absurd (cc)
led_end hs rest end (Fired event ∷ es) e s = absurd (cc)
led_end hs rest end (Work k ∷ es) e s = absurd (cc)
led_end hs rest end (Element ∷ es) e s = absurd (cc)

fire_part : (o : Option (AnswerAndState Event State)) (blobs : List (List ℕ)) (p : PlayState) (rest : ℕ) (end : Option Stop) (es : List Entry) → fire_result p.state ≡ o → own_of es ≡ fire_entries o → led es ≡ [] → IsReplay blobs p.state es
    → AreServedUntil p.listeners rest end es → p.left ≡ rest + calls_in es → IsPartTo end (fire_by blobs p o) blobs p.state rest es
fire_part None blobs p rest end es same own front r s l = none_part (nothing p) blobs p rest end es (none_led es front own) s
fire_part (Some fired) blobs p rest end es same own front r s l =
    let event : Event = fired.answer in
    let h = headed es (Fired event) front own in
    let calls : List Entry = h.0 in
    let all : led calls ≡ calls = only_led calls h.2 in
    let replays = subst (λ xs. IsReplay blobs p.state xs) h.1 r in
    let state : (entry_meaning blobs p.state (Fired event)).state ≡ fired.state = ap (λ (o : Option (AnswerAndState Event State)). (fire_meaning o event p.state).state) same in
    let mine : IsReplay blobs fired.state calls = subst (λ st. IsReplay blobs st calls) state replays.1 in
    let left : p.left ≡ rest + length calls = omega (arith, l, ap calls_in h.1, calls_of_led calls all) in
    let part : Part = fire_by blobs p (Some fired) in
    elim (subst (λ xs. AreServedUntil p.listeners rest end xs) h.1 s) [
      | inl c ↦
          let cut : IsPartTo end (dispatch_from blobs event 0 p.listeners fired.state p.left) blobs fired.state rest calls =
          cut_dispatch p.listeners c.v c.v c.n blobs event 0 calls fired.state p.left rest c.last end (omega arith) c.turns mine c.served c.many c.cut left in
          subst (λ xs. IsPartTo end part blobs p.state rest xs) (sym h.1)
          (to_behind end (Fired event ∷ []) calls blobs p.state fired.state rest (dispatch_from blobs event 0 p.listeners fired.state p.left) state cut)
      | inr t ↦
          let served : AreEventsServed p.listeners es = subst (λ xs. AreEventsServed p.listeners xs) (sym h.1) (t.0, t.1, led_events _ calls all) in
          let whole : part ≡ whole_part blobs p rest es = fire_line (Some fired) blobs p rest es same own front r served l in
          all_to end part blobs p.state rest es (led_end _ rest end calls all t.2) (ap (λ (x : Part). x.entries) whole)
    ]

-- ---- all lines

-- the entries of a line that is done are a front of it
pub line_front : (line : StepLine) (blobs : List (List ℕ)) (st : State) (es : List Entry) → IsLineEntries blobs st line es → IsLineFront blobs st line es
line_front (step.Call call) blobs st es d = inr d
line_front step.Fire blobs st es d = inr d
line_front (step.Work k) blobs st es d = inr d
line_front step.Element blobs st es d = inr d
line_front step.Drain blobs st es d = d.order

pub cut_line : (line : StepLine) (blobs : List (List ℕ)) (p : PlayState) (rest : ℕ) (end : Option Stop) (es : List Entry) → IsCutLineFrom blobs p rest end line es → IsPartTo end (line_played blobs p line) blobs p.state rest es
cut_line (step.Call call) blobs p rest end es d =
    let x : Entry = Script call (after_call blobs call p.state).answer in
    elim d.begins [
      | inl e ↦ none_part (one_entry blobs p x) blobs p rest end es e d.served
      | inr own ↦ if_part (Some p.state) x blobs p rest end es own d.front (λ xs s. s) d.served
    ]
cut_line step.Fire blobs p rest end es d = elim d.begins [
  | inl e ↦ none_part (fire blobs p) blobs p rest end es e d.served
  | inr own ↦ fire_part (fire_result p.state) blobs p rest end es refl own d.front d.replays d.served d.left
]
cut_line (step.Work k) blobs p rest end es d = elim d.begins [
  | inl e ↦ none_part (entry_if blobs p (Work k) (after_work k p.state)) blobs p rest end es e d.served
  | inr own ↦ if_part (after_work k p.state) (Work k) blobs p rest end es own d.front (λ xs s. s) d.served
]
cut_line step.Element blobs p rest end es d = elim d.begins [
  | inl e ↦ none_part (entry_if blobs p Element (after_element_turn p.state)) blobs p rest end es e d.served
  | inr own ↦ if_part (after_element_turn p.state) Element blobs p rest end es own d.front (λ xs s. s) d.served
]
cut_line step.Drain blobs p rest end es d = one_cut_drain es blobs p rest end (record { front = d.front; order = d.begins; replays = d.replays; served = d.served; left = d.left })
