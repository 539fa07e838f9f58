-- What listeners noted tells that each event was answered by the calls behind it.
use Rattle.std.proofs.Common.{◌≡◌, ◌≢◌, ℕ, suc, ◌+◌, ◌<◌, ◌≤◌, List, [], ◌∷◌, ◌++◌, length, refl, ap, sym, subst, ◌∙◌, arith, inl, inr, ne_eqb, append_assoc}
use Rattle.std.specs.Prelude.{Option, Some, None, Bool, true, false, ⊤, cond}
use Rattle.std.proofs.lemmas.Bool.{cases_eq, cases_lt}
use Rattle.std.proofs.lemmas.Bool.Decides.{eqb_tells}
use Rattle.std.proofs.lemmas.List.Concat.{flat_map-cons}
use Rattle.std.proofs.lemmas.List.Sums.{sum_by-cons}
use Rattle.mse_calls.specs.declared.answers.Answer.{Answer}
use Rattle.mse_calls.specs.declared.calls.Call.{Call}
use Rattle.mse_calls.specs.declared.events.Event.{Event}
use Rattle.mse_calls.specs.declared.entry.Entry.{Entry}
use Rattle.mse_calls.specs.declared.entry.Entry.TheVariants.{Step, Script, Listener, Fired, Work, Element}
use Rattle.run_steps.specs.declared.note.Note.{Note}
use Rattle.run_steps.specs.declared.note.Note.TheVariants.{Heard, Rested}
use Rattle.listeners.specs.Notes.{entry_notes, is_call_of, call_notes, call_count, event_notes}
use Rattle.listeners.specs.Dispatch.{AreCallsInTurn}
use Rattle.script_run.specs.NoteHistory.{entries_until_event, note_history}
use Rattle.script_run.specs.Turns.{most_calls}
use Rattle.script_run.proofs.ListenerTurns.{AreInTurn, ListenerTurn, first_turn, turn_after}
use Rattle.mse_commands.proofs.ListenerAnswers.{AreAnswers, answers_parts}
use Rattle.mse_commands.specs.Played.{ListenerState}
use Rattle.mse_commands.proofs.Dispatches.{AreServed, heard_by, one_more}
use Rattle.mse_commands.proofs.Drains.{led, AreEventsServed, heard_all}

-- ---- without a turn nobody calls

no_led : (count : ℕ) (es : List Entry) → AreInTurn count None es → led es ≡ []
no_led count [] a = refl
no_led count (Listener v call answer ∷ es) a = absurd a
no_led count (Step n ∷ es) a = refl
no_led count (Script call answer ∷ es) a = refl
no_led count (Fired event ∷ es) a = refl
no_led count (Work k ∷ es) a = refl
no_led count (Element ∷ es) a = refl

none_until : (w count : ℕ) (es : List Entry) → AreInTurn count None es → call_notes w (entries_until_event es) ≡ []
none_until w count [] a = refl
none_until w count (Listener v call answer ∷ es) a = absurd a
none_until w count (Step n ∷ es) a = flat_map-cons (entry_notes w) (Step n) (entries_until_event es) ∙ none_until w count es a
none_until w count (Script call answer ∷ es) a = flat_map-cons (entry_notes w) (Script call answer) (entries_until_event es) ∙ none_until w count es a
none_until w count (Fired event ∷ es) a = refl
none_until w count (Work k ∷ es) a = flat_map-cons (entry_notes w) (Work k) (entries_until_event es) ∙ none_until w count es a
none_until w count (Element ∷ es) a = flat_map-cons (entry_notes w) Element (entries_until_event es) ∙ none_until w count es a

-- up to the next event the calls in front are all
until_led : (w count : ℕ) (turn : ListenerTurn) (es : List Entry) → AreInTurn count (Some turn) es → call_notes w (entries_until_event es) ≡ call_notes w (led es)
until_led w count turn [] a = refl
until_led w count turn (Listener v call answer ∷ es) a =
    flat_map-cons (entry_notes w) (Listener v call answer) (entries_until_event es)
    ∙ ap (λ (ns : List Note). entry_notes w (Listener v call answer) ++ ns) (until_led w count (turn_after turn v) es a.2)
    ∙ sym (flat_map-cons (entry_notes w) (Listener v call answer) (led es))
until_led w count turn (Step n ∷ es) a = flat_map-cons (entry_notes w) (Step n) (entries_until_event es) ∙ none_until w count es a
until_led w count turn (Script call answer ∷ es) a = flat_map-cons (entry_notes w) (Script call answer) (entries_until_event es) ∙ none_until w count es a
until_led w count turn (Fired event ∷ es) a = refl
until_led w count turn (Work k ∷ es) a = flat_map-cons (entry_notes w) (Work k) (entries_until_event es) ∙ none_until w count es a
until_led w count turn (Element ∷ es) a = flat_map-cons (entry_notes w) Element (entries_until_event es) ∙ none_until w count es a

-- ---- the calls in front are in turn, and few

after_listener : (turn : ListenerTurn) (w : ℕ) → (turn_after turn w).listener ≡ w
after_listener turn w = elim (eqb_tells turn.listener w) [
  | inl t ↦ rw t.0 refl
  | inr t ↦ rw t.0 refl
]

led_turns : (count : ℕ) (turn : ListenerTurn) (es : List Entry) → AreInTurn count (Some turn) es → AreCallsInTurn turn.listener count (led es)
led_turns count turn [] a = tt
led_turns count turn (Listener v call answer ∷ es) a =
    let low : turn.listener ≤ v = elim a.1 [ inl lt ↦ omega (arith, lt) | inr e ↦ omega (arith, e.0) ] in
    (low, a.0, subst (λ x. AreCallsInTurn x count (led es)) (after_listener turn v) (led_turns count (turn_after turn v) es a.2))
led_turns count turn (Step n ∷ es) a = tt
led_turns count turn (Script call answer ∷ es) a = tt
led_turns count turn (Fired event ∷ es) a = tt
led_turns count turn (Work k ∷ es) a = tt
led_turns count turn (Element ∷ es) a = tt

pub counted_one : (v : ℕ) (call : Call) (answer : Answer) (es : List Entry) → call_count v (Listener v call answer ∷ es) ≡ 1 + call_count v es
counted_one v call answer es = elim (eqb_tells v v) [ inl t ↦ one_more v v call answer es ∙ rw t.0 refl | inr t ↦ absurd (t.1 refl) ]

counted_other : (k v : ℕ) (call : Call) (answer : Answer) (es : List Entry) → v ≢ k → call_count k (Listener v call answer ∷ es) ≡ 0 + call_count k es
counted_other k v call answer es ne = one_more k v call answer es ∙ rw (ne_eqb v k ne) refl

pub other_count : (k v : ℕ) (call : Call) (answer : Answer) (es : List Entry) → v ≢ k → call_count k (Listener v call answer ∷ es) ≡ call_count k es
other_count k v call answer es ne = omega (arith, counted_other k v call answer es ne)

pub other_notes : (k v : ℕ) (call : Call) (answer : Answer) (es : List Entry) → v ≢ k → call_notes k (Listener v call answer ∷ es) ≡ call_notes k es
other_notes k v call answer es ne = flat_map-cons (entry_notes k) (Listener v call answer) es ∙ rw (ne_eqb v k ne) refl

-- an entry that is no call of a listener
pub own_notes : (k : ℕ) (x : Entry) (es : List Entry) → entry_notes k x ≡ [] → call_notes k (x ∷ es) ≡ call_notes k es
own_notes k x es e = flat_map-cons (entry_notes k) x es ∙ ap (λ (ns : List Note). ns ++ call_notes k es) e

none_of : (b : Bool) (n : ℕ) → b ≡ false → cond b 1 0 + n ≡ n
none_of true n e = absurd (cc)
none_of false n e = omega arith

pub own_count : (k : ℕ) (x : Entry) (es : List Entry) → is_call_of k x ≡ false → call_count k es ≡ call_count k (x ∷ es)
own_count k x es e = sym (sum_by-cons (λ e. cond (is_call_of k e) 1 0) x es ∙ none_of (is_call_of k x) (call_count k es) e)

pub count_before : (w low high : ℕ) (es : List Entry) → w < low → AreCallsInTurn low high es → call_count w es ≡ 0
count_before w low high [] lt a = refl
count_before w low high (Listener v call answer ∷ es) lt a =
    omega (arith, counted_other w v call answer es (omega (arith, lt, a.0)), count_before w v high es (omega (arith, lt, a.0)) a.2)
count_before w low high (Step n ∷ es) lt a = absurd a
count_before w low high (Script call answer ∷ es) lt a = absurd a
count_before w low high (Fired event ∷ es) lt a = absurd a
count_before w low high (Work k ∷ es) lt a = absurd a
count_before w low high (Element ∷ es) lt a = absurd a

-- with the calls that the listener whose turn it is has made
pub record IsFew (w : ℕ) (turn : ListenerTurn) (n : ℕ) : Type 0 where
  pub own : w ≡ turn.listener → turn.made + n ≤ most_calls
  pub later : turn.listener < w → n ≤ most_calls

few_led : (w count : ℕ) (turn : ListenerTurn) (es : List Entry) → turn.made ≤ most_calls → AreInTurn count (Some turn) es → IsFew w turn (call_count w (led es))
few_led w count turn [] m a = record { own = λ e. omega (arith, m); later = λ lt. omega arith }
few_led w count turn (Listener v call answer ∷ es) m a = elim (eqb_tells turn.listener v) [
  | inl t ↦
      let after : turn_after turn v ≡ record { listener = v; made = suc turn.made } = rw t.0 refl in
      let room : turn.made < most_calls = elim a.1 [ inl lt ↦ absurd (omega (arith, lt, t.1)) | inr e ↦ e.1 ] in
      let rest = few_led w count (record { listener = v; made = suc turn.made }) es (omega (arith, room)) (subst (λ x. AreInTurn count (Some x) es) after a.2) in
      elim (cases_eq v w) [
        | inl e ↦
            let one : call_count w (Listener v call answer ∷ led es) ≡ 1 + call_count w (led es) = subst (λ k. call_count k (Listener v call answer ∷ led es) ≡ 1 + call_count k (led es)) e (counted_one v call answer (led es)) in
            record { own = λ s. omega (arith, one, rest.own (sym e)); later = λ lt. absurd (omega (arith, lt, t.1, e)) }
        | inr ne ↦
            let none = counted_other w v call answer (led es) ne in
            record { own = λ s. absurd (ne (sym (s ∙ t.1))); later = λ lt. omega (arith, none, rest.later (omega (arith, lt, t.1))) }
      ]
  | inr t ↦
      let after : turn_after turn v ≡ record { listener = v; made = 1 } = rw t.0 refl in
      let less : turn.listener < v = elim a.1 [ inl lt ↦ lt | inr e ↦ absurd (t.1 e.0) ] in
      let rest = few_led w count (record { listener = v; made = 1 }) es (omega arith) (subst (λ x. AreInTurn count (Some x) es) after a.2) in
      elim (cases_eq v w) [
        | inl e ↦
            let one : call_count w (Listener v call answer ∷ led es) ≡ 1 + call_count w (led es) = subst (λ k. call_count k (Listener v call answer ∷ led es) ≡ 1 + call_count k (led es)) e (counted_one v call answer (led es)) in
            record { own = λ s. absurd (omega (arith, s, less, e)); later = λ lt. omega (arith, one, rest.own (sym e)) }
        | inr ne ↦
            let none = counted_other w v call answer (led es) ne in
            let turns : AreCallsInTurn v count (led es) = led_turns count (record { listener = v; made = 1 }) es (subst (λ x. AreInTurn count (Some x) es) after a.2) in
            record {
              own = λ s. omega (arith, m, none, count_before w v count (led es) (omega (arith, s, less)) turns);
              later = λ lt. elim (cases_lt v w) [
                | inl l ↦ omega (arith, none, rest.later l)
                | inr ge ↦ omega (arith, none, count_before w v count (led es) (omega (arith, ge, ne)) turns)
              ];
            }
      ]
]
few_led w count turn (Step n ∷ es) m a = record { own = λ e. omega (arith, m); later = λ lt. omega arith }
few_led w count turn (Script call answer ∷ es) m a = record { own = λ e. omega (arith, m); later = λ lt. omega arith }
few_led w count turn (Fired event ∷ es) m a = record { own = λ e. omega (arith, m); later = λ lt. omega arith }
few_led w count turn (Work k ∷ es) m a = record { own = λ e. omega (arith, m); later = λ lt. omega arith }
few_led w count turn (Element ∷ es) m a = record { own = λ e. omega (arith, m); later = λ lt. omega arith }

-- ---- all listeners

-- of each listener, from number w on, the notes that the journal tells of it, and then some more, are by what it answers
abbrev pub AreHistories : ℕ → List Entry → (ℕ → List Note) → List ListenerState → Type 0
AreHistories w es more [] = ⊤
AreHistories w es more (h ∷ hs) = AreAnswers h.answers h.notes (note_history w es ++ more w) × AreHistories (suc w) es more hs

pub few_of : (w count : ℕ) (es : List Entry) → AreInTurn count (Some first_turn) es → call_count w (led es) ≤ most_calls
few_of w count es a =
    let p = few_led w count first_turn es (omega arith) a in
    elim (cases_eq w 0) [ inl e ↦ omega (arith, p.own e) | inr ne ↦ p.later (omega (arith, ne)) ]

-- at an event
pub record IsServedThen (event : Event) (w : ℕ) (es : List Entry) (more : ℕ → List Note) (hs : List ListenerState) : Type 0 where
  pub served : AreServed event w (led es) hs
  pub later : AreHistories w es more (heard_by event w (led es) hs)

served_then : (hs : List ListenerState) (event : Event) (w count : ℕ) (es : List Entry) (more : ℕ → List Note) → AreInTurn count (Some first_turn) es → AreHistories w (Fired event ∷ es) more hs → IsServedThen event w es more hs
served_then [] event w count es more a p = record { served = tt; later = tt }
served_then (h ∷ hs) event w count es more a p =
    let rest = served_then hs event (suc w) count es more a p.1 in
    let same = until_led w count first_turn es a in
    let told : List Note = note_history w es ++ more w in
    let whole : (event_notes event w (entries_until_event es) ++ note_history w es) ++ more w ≡ event_notes event w (led es) ++ told =
    append_assoc (event_notes event w (entries_until_event es)) (note_history w es) (more w) ∙ ap (λ (ns : List Note). (Heard event ∷ (ns ++ Rested ∷ [])) ++ told) same in
    let mine : AreAnswers h.answers h.notes (event_notes event w (led es) ++ told) = subst (λ ns. AreAnswers h.answers h.notes ns) whole p.0 in
    let both = answers_parts h.answers h.notes (event_notes event w (led es)) told mine in
    record { served = (both.0, few_of w count es a, rest.served); later = (both.1, rest.later) }

pub heard_length : (event : Event) (w : ℕ) (es : List Entry) (hs : List ListenerState) → length (heard_by event w es hs) ≡ length hs
heard_length event w es [] = refl
heard_length event w es (h ∷ hs) = ap suc (heard_length event (suc w) es hs)

same_histories : (w : ℕ) (hs : List ListenerState) (xs ys : List Entry) (more : ℕ → List Note) → ((k : ℕ) → note_history k xs ≡ note_history k ys) → AreHistories w xs more hs → AreHistories w ys more hs
same_histories w [] xs ys more f p = tt
same_histories w (h ∷ hs) xs ys more f p = (subst (λ ns. AreAnswers h.answers h.notes (ns ++ more w)) (f w) p.0, same_histories (suc w) hs xs ys more f p.1)

-- by what listeners noted, each event was answered by the calls behind it, and the notes that are left are by what they answer
pub history_served : (es : List Entry) (hs : List ListenerState) (turn : Option ListenerTurn) (more : ℕ → List Note) → AreInTurn (length hs) turn es → AreHistories 0 es more hs
    → AreEventsServed hs es × AreHistories 0 [] more (heard_all hs es)
history_served [] hs turn more a p = (tt, p)
history_served (Fired event ∷ es) hs turn more a p =
    let s = served_then hs event 0 (length hs) es more a p in
    let now : List ListenerState = heard_by event 0 (led es) hs in
    let rest = history_served es now (Some first_turn) more (subst (λ n. AreInTurn n (Some first_turn) es) (sym (heard_length event 0 (led es) hs)) a) s.later in
    ((led_turns (length hs) first_turn es a, s.served, rest.0), rest.1)
history_served (Listener v call answer ∷ es) hs None more a p = absurd a
history_served (Listener v call answer ∷ es) hs (Some turn) more a p = history_served es hs (Some (turn_after turn v)) more a.2 (same_histories 0 hs (Listener v call answer ∷ es) es more (λ k. refl) p)
history_served (Step n ∷ es) hs turn more a p = let r = history_served es hs None more a (same_histories 0 hs (Step n ∷ es) es more (λ k. refl) p) in ((no_led (length hs) es a, r.0), r.1)
history_served (Script call answer ∷ es) hs turn more a p = let r = history_served es hs None more a (same_histories 0 hs (Script call answer ∷ es) es more (λ k. refl) p) in ((no_led (length hs) es a, r.0), r.1)
history_served (Work k ∷ es) hs turn more a p = let r = history_served es hs None more a (same_histories 0 hs (Work k ∷ es) es more (λ k. refl) p) in ((no_led (length hs) es a, r.0), r.1)
history_served (Element ∷ es) hs turn more a p = let r = history_served es hs None more a (same_histories 0 hs (Element ∷ es) es more (λ k. refl) p) in ((no_led (length hs) es a, r.0), r.1)

pub all_length : (es : List Entry) (hs : List ListenerState) → length (heard_all hs es) ≡ length hs
all_length [] hs = refl
all_length (Fired event ∷ es) hs = all_length es (heard_by event 0 (led es) hs) ∙ heard_length event 0 (led es) hs
all_length (Listener v call answer ∷ es) hs = all_length es hs
all_length (Step n ∷ es) hs = all_length es hs
all_length (Script call answer ∷ es) hs = all_length es hs
all_length (Work k ∷ es) hs = all_length es hs
all_length (Element ∷ es) hs = all_length es hs
