-- A drain that went through is the one of the play.
use Rattle.std.proofs.Common.{◌≡◌, ◌≢◌, ℕ, zero, suc, ◌+◌, ◌<◌, ◌≤◌, List, [], ◌∷◌, ◌++◌, length, refl, ap, sym, subst, ◌∙◌, arith, inl, inr, ne_eqb}
use Rattle.std.specs.Prelude.{Option, Some, None, ◌==◌, ⊤, slice_get, drop, option_map}
use Rattle.std.proofs.lemmas.Bool.Decides.{eqb_tells}
use Rattle.mse_calls.specs.declared.events.Event.{Event}
use Rattle.mse_calls.specs.declared.entry.Entry.{Entry}
use Rattle.mse_calls.specs.declared.entry.Entry.TheVariants.{Step, Script, Listener, Fired, Work, Element}
use Rattle.listeners.specs.Dispatch.{AreCallsInTurn}
use Rattle.script_run.specs.DrainSteps.{IsAtRest, AreInDrainOrder}
use Rattle.script_run.specs.Turns.{calls_in}
use Rattle.mse_engine.specs.State.{State}
use Rattle.mse_engine.specs.Work.{without_first, is_turn_due}
use Rattle.cut_law.specs.Plays.{steps_left}
use Rattle.mse_engine.specs.Run.{entry_meaning, fire_meaning, after_entries, IsReplay}
use Rattle.cut_law.specs.Plays.{after_entry, next_entry, next_entry_by}
use Rattle.cut_law.proofs.DrainEnds.{work-falls, turn-falls}
use Rattle.mse_commands.specs.Played.{ListenerState, PlayState, Part, DrainContinuations, nothing, behind, and_then, fire_by, fire, if_called, fire_waiting, step_by, round_in, rounds_in, drain_played}
use Rattle.mse_commands.proofs.Dispatches.{AreServed, heard_by, one_dispatch, replays_parts, after_both}

-- the calls in front, and what comes behind them
abbrev pub led : List Entry → List Entry
led [] = []
led (Listener v call answer ∷ es) = Listener v call answer ∷ led es
led (Step n ∷ es) = []
led (Script call answer ∷ es) = []
led (Fired event ∷ es) = []
led (Work k ∷ es) = []
led (Element ∷ es) = []

abbrev pub unled : List Entry → List Entry
unled [] = []
unled (Listener v call answer ∷ es) = unled es
unled (Step n ∷ es) = Step n ∷ es
unled (Script call answer ∷ es) = Script call answer ∷ es
unled (Fired event ∷ es) = Fired event ∷ es
unled (Work k ∷ es) = Work k ∷ es
unled (Element ∷ es) = Element ∷ es

-- behind each event stand the calls by which all listeners answered it, and nowhere else stands one
abbrev pub AreEventsServed : List ListenerState → List Entry → Type 0
AreEventsServed hs [] = ⊤
AreEventsServed hs (Fired event ∷ es) =
    AreCallsInTurn 0 (length hs) (led es) × AreServed event 0 (led es) hs × AreEventsServed (heard_by event 0 (led es) hs) es
AreEventsServed hs (Listener v call answer ∷ es) = AreEventsServed hs es
AreEventsServed hs (Step n ∷ es) = (led es ≡ []) × AreEventsServed hs es
AreEventsServed hs (Script call answer ∷ es) = (led es ≡ []) × AreEventsServed hs es
AreEventsServed hs (Work k ∷ es) = (led es ≡ []) × AreEventsServed hs es
AreEventsServed hs (Element ∷ es) = (led es ≡ []) × AreEventsServed hs es

-- the listeners behind these entries
abbrev pub heard_all : List ListenerState → List Entry → List ListenerState
heard_all hs [] = hs
heard_all hs (Fired event ∷ es) = heard_all (heard_by event 0 (led es) hs) es
heard_all hs (Listener v call answer ∷ es) = heard_all hs es
heard_all hs (Step n ∷ es) = heard_all hs es
heard_all hs (Script call answer ∷ es) = heard_all hs es
heard_all hs (Work k ∷ es) = heard_all hs es
heard_all hs (Element ∷ es) = heard_all hs es

-- ---- the calls in front

pub led_unled : (es : List Entry) → led es ++ unled es ≡ es
led_unled [] = refl
led_unled (Listener v call answer ∷ es) = ap (λ (xs : List Entry). Listener v call answer ∷ xs) (led_unled es)
led_unled (Step n ∷ es) = refl
led_unled (Script call answer ∷ es) = refl
led_unled (Fired event ∷ es) = refl
led_unled (Work k ∷ es) = refl
led_unled (Element ∷ es) = refl

-- what holds of all holds of what is behind the calls in front
pub record IsBehindLed (blobs : List (List ℕ)) (st : State) (hs : List ListenerState) (es : List Entry) : Type 0 where
  pub front : led (unled es) ≡ []
  pub order : AreInDrainOrder blobs st es → AreInDrainOrder blobs (after_entries blobs st (led es)) (unled es)
  pub served : AreEventsServed hs es → AreEventsServed hs (unled es)
  pub heard : heard_all hs (unled es) ≡ heard_all hs es
  pub calls : calls_in es ≡ length (led es) + calls_in (unled es)
  pub shorter : length (unled es) ≤ length es

pub behind_led : (blobs : List (List ℕ)) (st : State) (hs : List ListenerState) (es : List Entry) → IsBehindLed blobs st hs es
behind_led blobs st hs [] = record { front = refl; order = λ o. o; served = λ s. s; heard = refl; calls = refl; shorter = omega arith }
behind_led blobs st hs (Listener v call answer ∷ es) =
    let p = behind_led blobs (after_entry blobs st (Listener v call answer)) hs es in
    record { front = p.front; order = λ o. p.order o.1; served = λ s. p.served s; heard = p.heard; calls = omega (arith, p.calls); shorter = omega (arith, p.shorter) }
behind_led blobs st hs (Step n ∷ es) = record { front = refl; order = λ o. o; served = λ s. s; heard = refl; calls = omega arith; shorter = omega arith }
behind_led blobs st hs (Script call answer ∷ es) = record { front = refl; order = λ o. o; served = λ s. s; heard = refl; calls = omega arith; shorter = omega arith }
behind_led blobs st hs (Fired event ∷ es) = record { front = refl; order = λ o. o; served = λ s. s; heard = refl; calls = omega arith; shorter = omega arith }
behind_led blobs st hs (Work k ∷ es) = record { front = refl; order = λ o. o; served = λ s. s; heard = refl; calls = omega arith; shorter = omega arith }
behind_led blobs st hs (Element ∷ es) = record { front = refl; order = λ o. o; served = λ s. s; heard = refl; calls = omega arith; shorter = omega arith }

-- no call is in front of what is behind these entries
pub led_stops : (es rest : List Entry) → led rest ≡ [] → led (es ++ rest) ≡ led es
led_stops [] rest e = e
led_stops (Listener v call answer ∷ es) rest e = ap (λ (xs : List Entry). Listener v call answer ∷ xs) (led_stops es rest e)
led_stops (Step n ∷ es) rest e = refl
led_stops (Script call answer ∷ es) rest e = refl
led_stops (Fired event ∷ es) rest e = refl
led_stops (Work k ∷ es) rest e = refl
led_stops (Element ∷ es) rest e = refl

-- ---- a drain

pub first_waits : (queue : List Event) (event : Event) → slice_get queue 0 ≡ Some event → (events : List Event) × (queue ≡ event ∷ events)
first_waits [] event e = absurd (cc)
first_waits (x ∷ xs) event e = let same : x ≡ event = cc in (xs, ap (λ (y : Event). y ∷ xs) same)

-- what is known of the entries of a drain
pub record IsDrainFrom (blobs : List (List ℕ)) (p : PlayState) (rest : ℕ) (es : List Entry) : Type 0 where
  pub front : led es ≡ []
  pub order : AreInDrainOrder blobs p.state es
  pub end : IsAtRest (after_entries blobs p.state es)
  pub replays : IsReplay blobs p.state es
  pub served : AreEventsServed p.listeners es
  pub left : p.left ≡ rest + calls_in es

abbrev pub whole_part : List (List ℕ) → PlayState → ℕ → List Entry → Part
whole_part blobs p rest es = record {
  entries = es;
  now = record { state = after_entries blobs p.state es; left = rest; listeners = heard_all p.listeners es };
  stop = None;
}

-- an event that is fired: what is known of the entries behind its calls
abbrev now_behind : List (List ℕ) → PlayState → Event → ℕ → List Entry → PlayState
now_behind blobs p event middle es =
    record { state = after_entries blobs (without_first p.state) (led es); left = middle; listeners = heard_by event 0 (led es) p.listeners }

pub fired_state : (blobs : List (List ℕ)) (st : State) (event : Event) → slice_get st.element.queue 0 ≡ Some event → (entry_meaning blobs st (Fired event)).state ≡ without_first st
fired_state blobs st event e = ap (λ (o : Option Event). (fire_meaning (option_map (λ event. record { answer = event; state = without_first st }) o) event st).state) e

fired_behind : (blobs : List (List ℕ)) (p : PlayState) (rest : ℕ) (event : Event) (es : List Entry) → IsDrainFrom blobs p rest (Fired event ∷ es)
    → IsDrainFrom blobs (now_behind blobs p event (rest + calls_in (unled es)) es) rest (unled es)
fired_behind blobs p rest event es d =
    let st : State = without_first p.state in
    let same = fired_state blobs p.state event d.order.0 in
    let b = behind_led blobs st (heard_by event 0 (led es) p.listeners) es in
    let order : AreInDrainOrder blobs st es = subst (λ s. AreInDrainOrder blobs s es) same d.order.1 in
    let replays : IsReplay blobs st es = subst (λ s. IsReplay blobs s es) same d.replays.1 in
    let end : IsAtRest (after_entries blobs st es) = subst (λ s. IsAtRest (after_entries blobs s es)) same d.end in
    record {
      front = b.front;
      order = b.order order;
      end = subst IsAtRest (ap (λ xs. after_entries blobs st xs) (sym (led_unled es)) ∙ after_both blobs st (led es) (unled es)) end;
      replays = (replays_parts blobs st (led es) (unled es) (subst (λ xs. IsReplay blobs st xs) (sym (led_unled es)) replays)).1;
      served = b.served d.served.2;
      left = refl;
    }

-- its dispatch
fired_part : (blobs : List (List ℕ)) (p : PlayState) (rest : ℕ) (event : Event) (es : List Entry) → IsDrainFrom blobs p rest (Fired event ∷ es)
    → fire blobs p ≡ record { entries = Fired event ∷ led es; now = now_behind blobs p event (rest + calls_in (unled es)) es; stop = None }
fired_part blobs p rest event es d =
    let st : State = without_first p.state in
    let same = fired_state blobs p.state event d.order.0 in
    let b = behind_led blobs st p.listeners es in
    let replays : IsReplay blobs st es = subst (λ s. IsReplay blobs s es) same d.replays.1 in
    let mine : IsReplay blobs st (led es) = (replays_parts blobs st (led es) (unled es) (subst (λ xs. IsReplay blobs st xs) (sym (led_unled es)) replays)).0 in
    let turns : AreCallsInTurn 0 (0 + length p.listeners) (led es) = subst (λ n. AreCallsInTurn 0 n (led es)) (omega arith) d.served.0 in
    ap (λ (o : Option Event). fire_by blobs p (option_map (λ event. record { answer = event; state = st }) o)) d.order.0
    ∙ ap (behind (Fired event ∷ [])) (one_dispatch p.listeners blobs event 0 (led es) st p.left (rest + calls_in (unled es)) turns mine d.served.1 (omega (arith, d.left, b.calls)))

-- the round that is written out at an empty queue
pub quiet_round : (n : ℕ) (blobs : List (List ℕ)) (again : PlayState → Part) (p : PlayState) → p.state.element.queue ≡ []
    → round_in (suc n) blobs again p ≡ step_by blobs (round_in n blobs again) p (next_entry p.state)
quiet_round n blobs again p e =
    ap (λ q. fire_waiting q blobs (record { again = again; next = λ now. step_by blobs (round_in n blobs again) now (next_entry now.state) }) p) e

-- the whole of an event's part: what is behind it
fired_whole : (blobs : List (List ℕ)) (p : PlayState) (rest : ℕ) (event : Event) (es : List Entry) → IsDrainFrom blobs p rest (Fired event ∷ es)
    → behind (Fired event ∷ led es) (whole_part blobs (now_behind blobs p event (rest + calls_in (unled es)) es) rest (unled es)) ≡ whole_part blobs p rest (Fired event ∷ es)
fired_whole blobs p rest event es d =
    let st : State = without_first p.state in
    let hs : List ListenerState = heard_by event 0 (led es) p.listeners in
    let last : after_entries blobs (after_entries blobs st (led es)) (unled es) ≡ after_entries blobs p.state (Fired event ∷ es) =
    sym (after_both blobs st (led es) (unled es)) ∙ ap (λ xs. after_entries blobs st xs) (led_unled es) ∙ ap (λ s. after_entries blobs s es) (sym (fired_state blobs p.state event d.order.0)) in
    let heard : heard_all hs (unled es) ≡ heard_all hs es = (behind_led blobs st hs es).heard in
    ap (λ (s : State). record { entries = Fired event ∷ (led es ++ unled es); now = record { state = s; left = rest; listeners = heard_all hs (unled es) }; stop = None }) last
    ∙ ap (λ (x : List ListenerState). record { entries = Fired event ∷ (led es ++ unled es); now = record { state = after_entries blobs p.state (Fired event ∷ es); left = rest; listeners = x }; stop = None }) heard
    ∙ ap (λ (xs : List Entry). record { entries = Fired event ∷ xs; now = record { state = after_entries blobs p.state (Fired event ∷ es); left = rest; listeners = heard_all hs es }; stop = None }) (led_unled es)

-- no call is in front, or there is one
pub led_case : (es : List Entry) (P : Type 0) → (led es ≡ [] → P) → (0 < length (led es) → P) → P
led_case [] P f g = f refl
led_case (Listener v call answer ∷ es) P f g = g (omega arith)
led_case (Step n ∷ es) P f g = f refl
led_case (Script call answer ∷ es) P f g = f refl
led_case (Fired event ∷ es) P f g = f refl
led_case (Work k ∷ es) P f g = f refl
led_case (Element ∷ es) P f g = f refl

pub if_same : (now left : ℕ) (same called : Part) → now ≡ left → if_called (now == left) same called ≡ same
if_same now left same called e = elim (eqb_tells now left) [
  | inl t ↦ ap (λ b. if_called b same called) t.0
  | inr t ↦ absurd (t.1 e)
]

pub if_other : (now left : ℕ) (same called : Part) → now ≢ left → if_called (now == left) same called ≡ called
if_other now left same called ne = ap (λ b. if_called b same called) (ne_eqb now left ne)

-- entries of a whole drain are those of a round, and of rounds begun anew, with fuel enough
one_round : (k : ℕ) (es : List Entry) (n m : ℕ) (blobs : List (List ℕ)) (p : PlayState) (rest : ℕ) → length es < k → IsDrainFrom blobs p rest es → steps_left p.state < n → p.left ≤ m
    → round_in n blobs (rounds_in m blobs) p ≡ whole_part blobs p rest es
one_round zero es n m blobs p rest short d steps calls = absurd (omega (arith, short))
one_round (suc k) es zero m blobs p rest short d steps calls = absurd (omega (arith, steps))
one_round (suc k) [] (suc n) m blobs p rest short d steps calls =
    let left : p.left ≡ rest = omega (arith, d.left) in
    quiet_round n blobs (rounds_in m blobs) p d.end.quiet.queue
    ∙ ap (λ low. step_by blobs (round_in n blobs (rounds_in m blobs)) p (next_entry_by low (is_turn_due p.state))) d.end.quiet.running
    ∙ ap (λ due. step_by blobs (round_in n blobs (rounds_in m blobs)) p (next_entry_by None due)) d.end.due
    ∙ ap (λ (l : ℕ). nothing (record p { left = l })) left
one_round (suc k) (Work b ∷ es) (suc n) m blobs p rest short d steps calls =
    let now : PlayState = record p { state = after_entry blobs p.state (Work b) } in
    let later : IsDrainFrom blobs now rest es = record { front = d.served.0; order = d.order.1; end = d.end; replays = d.replays.1; served = d.served.1; left = d.left } in
    quiet_round n blobs (rounds_in m blobs) p d.order.0.0
    ∙ ap (λ low. step_by blobs (round_in n blobs (rounds_in m blobs)) p (next_entry_by low (is_turn_due p.state))) d.order.0.1
    ∙ ap (behind (Work b ∷ [])) (one_round k es n m blobs now rest (omega (arith, short)) later (omega (arith, work-falls blobs p.state b d.order.0.1, steps)) calls)
one_round (suc k) (Element ∷ es) (suc n) m blobs p rest short d steps calls =
    let now : PlayState = record p { state = after_entry blobs p.state Element } in
    let later : IsDrainFrom blobs now rest es = record { front = d.served.0; order = d.order.1; end = d.end; replays = d.replays.1; served = d.served.1; left = d.left } in
    quiet_round n blobs (rounds_in m blobs) p d.order.0.0.queue
    ∙ ap (λ low. step_by blobs (round_in n blobs (rounds_in m blobs)) p (next_entry_by low (is_turn_due p.state))) d.order.0.0.running
    ∙ ap (λ due. step_by blobs (round_in n blobs (rounds_in m blobs)) p (next_entry_by None due)) d.order.0.1
    ∙ ap (behind (Element ∷ [])) (one_round k es n m blobs now rest (omega (arith, short)) later (omega (arith, turn-falls blobs p.state d.order.0.0.running d.order.0.1, steps)) calls)
one_round (suc k) (Fired event ∷ es) (suc n) m blobs p rest short d steps calls =
    let waits = first_waits p.state.element.queue event d.order.0 in
    let again : PlayState → Part = rounds_in m blobs in
    let g : DrainContinuations = record { again = again; next = λ now. step_by blobs (round_in n blobs again) now (next_entry now.state) } in
    let middle : ℕ = rest + calls_in (unled es) in
    let now : PlayState = now_behind blobs p event middle es in
    let later = fired_behind blobs p rest event es d in
    let b = behind_led blobs (without_first p.state) p.listeners es in
    let less : length (unled es) < k = omega (arith, b.shorter, short) in
    let went : Part = whole_part blobs now rest (unled es) in
    let lefts : p.left ≡ middle + length (led es) = omega (arith, d.left, b.calls) in
    let goes : if_called (now.left == p.left) (fire_waiting waits.0 blobs g now) (again now) ≡ went = led_case es (if_called (now.left == p.left) (fire_waiting waits.0 blobs g now) (again now) ≡ went)
    (λ none.
    let queue : now.state.element.queue ≡ waits.0 = ap (λ xs. (after_entries blobs (without_first p.state) xs).element.queue) none ∙ ap (λ q. drop 1 q) waits.1 in
    let stays : steps_left now.state ≡ steps_left p.state = ap (λ xs. steps_left (after_entries blobs (without_first p.state) xs)) none in
    if_same now.left p.left (fire_waiting waits.0 blobs g now) (again now) (omega (arith, lefts, ap length none))
    ∙ ap (λ q. fire_waiting q blobs g now) (sym queue)
    ∙ one_round k (unled es) (suc n) m blobs now rest less later (omega (arith, stays, steps)) (omega (arith, lefts, calls)))
    (λ some. if_other now.left p.left (fire_waiting waits.0 blobs g now) (again now) (omega (arith, lefts, some))
    ∙ anew m (omega (arith, lefts, some, calls)) (λ m2 le. one_round k (unled es) (suc (steps_left now.state)) m2 blobs now rest less later (omega arith) le)) in
    ap (λ q. fire_waiting q blobs g p) waits.1
    ∙ ap (λ (part : Part). and_then part (λ now. if_called (now.left == p.left) (fire_waiting waits.0 blobs g now) (again now))) (fired_part blobs p rest event es d)
    ∙ ap (behind (Fired event ∷ led es)) goes
    ∙ fired_whole blobs p rest event es d
  where
    anew : (m : ℕ) → (now_behind blobs p event (rest + calls_in (unled es)) es).left < m
        → ((m2 : ℕ) → (now_behind blobs p event (rest + calls_in (unled es)) es).left ≤ m2
        → round_in (suc (steps_left (now_behind blobs p event (rest + calls_in (unled es)) es).state)) blobs (rounds_in m2 blobs) (now_behind blobs p event (rest + calls_in (unled es)) es) ≡ whole_part blobs (now_behind blobs p event (rest + calls_in (unled es)) es) rest (unled es))
        → rounds_in m blobs (now_behind blobs p event (rest + calls_in (unled es)) es) ≡ whole_part blobs (now_behind blobs p event (rest + calls_in (unled es)) es) rest (unled es)
    anew zero lt f = absurd (omega (arith, lt))
    anew (suc m2) lt f = f m2 (omega (arith, lt))
one_round (suc k) (Listener v call answer ∷ es) (suc n) m blobs p rest short d steps calls = let none : Listener v call answer ∷ led es ≡ [] = d.front in absurd (cc)
one_round (suc k) (Step x ∷ es) (suc n) m blobs p rest short d steps calls = absurd d.order.0
one_round (suc k) (Script call answer ∷ es) (suc n) m blobs p rest short d steps calls = absurd d.order.0

-- entries of a whole drain are those of the play
pub one_drain : (es : List Entry) (blobs : List (List ℕ)) (p : PlayState) (rest : ℕ) → IsDrainFrom blobs p rest es → drain_played blobs p ≡ whole_part blobs p rest es
unfolding drain_played
one_drain es blobs p rest d = one_round (suc (length es)) es (suc (steps_left p.state)) p.left blobs p rest (omega arith) d (omega arith) (omega arith)
