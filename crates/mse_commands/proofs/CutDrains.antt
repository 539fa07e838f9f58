-- A drain that ended at one listener is the one of the play up to there.
use Rattle.std.proofs.Common.{◌≡◌, ℕ, zero, suc, ◌+◌, ◌<◌, ◌≤◌, List, [], ◌∷◌, ◌++◌, length, refl, ap, sym, subst, ◌∙◌, arith, inl, inr}
use Rattle.std.specs.Prelude.{Option, Some, None, ◌==◌, slice_get, drop, option_map, ◌⊎◌}
use Rattle.mse_calls.specs.declared.events.Event.{Event}
use Rattle.mse_calls.specs.declared.entry.Entry.{Entry}
use Rattle.mse_calls.specs.declared.entry.Entry.TheVariants.{Step, Script, Listener, Fired, Work, Element}
use Rattle.run_steps.specs.declared.note.Note.{Note}
use Rattle.listeners.specs.Notes.{call_count}
use Rattle.listeners.specs.Dispatch.{AreCallsInTurn}
use Rattle.script_run.specs.DrainSteps.{AreInDrainOrder}
use Rattle.script_run.specs.declared.stop.Stop.{Stop}
use Rattle.script_run.specs.Turns.{calls_in, most_calls}
use Rattle.mse_engine.specs.State.{State}
use Rattle.mse_engine.specs.Work.{without_first, is_turn_due}
use Rattle.cut_law.specs.Plays.{steps_left}
use Rattle.mse_engine.specs.Run.{after_entries, IsReplay}
use Rattle.cut_law.specs.Plays.{after_entry, next_entry, next_entry_by}
use Rattle.cut_law.proofs.DrainEnds.{work-falls, turn-falls}
use Rattle.mse_commands.specs.Played.{ListenerState, PlayState, Part, DrainContinuations, behind, and_then, dispatch_from, fire_by, fire, if_called, fire_waiting, step_by, round_in, rounds_in, drain_played}
use Rattle.mse_commands.proofs.Dispatches.{AreServed, heard_by, one_dispatch, replays_parts}
use Rattle.mse_commands.proofs.Drains.{led, unled, led_unled, behind_led, first_waits, fired_state, quiet_round, led_case, if_same, if_other}
use Rattle.mse_commands.proofs.CutDispatches.{IsPartTo, same_to, to_behind, to_then, none_to, IsCutAt, AreServedTo, cut_dispatch}

-- the dispatch of the last event ended at listener v, which may make n calls more for the event
pub record IsCutEvent (event : Event) (es : List Entry) (hs : List ListenerState) (rest : ℕ) (end : Option Stop) : Type 0 where
  pub v : ℕ
  pub n : ℕ
  pub last : List Note
  pub turns : AreCallsInTurn 0 (v + 1) es
  pub served : AreServedTo event 0 es v last hs
  pub many : call_count v es + n ≡ most_calls
  pub cut : IsCutAt end n rest v last

-- Each event but the last was answered by the calls behind it, and the dispatch of the last ended at one listener. Where the play does not stop the last may have been answered too.
abbrev pub AreServedUntil : List ListenerState → ℕ → Option Stop → List Entry → Type 0
AreServedUntil hs rest end [] = end ≡ None
AreServedUntil hs rest end (Fired event ∷ es) =
    IsCutEvent event es hs rest end
    ⊎ (AreCallsInTurn 0 (length hs) (led es) × AreServed event 0 (led es) hs × AreServedUntil (heard_by event 0 (led es) hs) rest end es)
AreServedUntil hs rest end (Listener v call answer ∷ es) = AreServedUntil hs rest end es
AreServedUntil hs rest end (Step n ∷ es) = (led es ≡ []) × AreServedUntil hs rest end es
AreServedUntil hs rest end (Script call answer ∷ es) = (led es ≡ []) × AreServedUntil hs rest end es
AreServedUntil hs rest end (Work k ∷ es) = (led es ≡ []) × AreServedUntil hs rest end es
AreServedUntil hs rest end (Element ∷ es) = (led es ≡ []) × AreServedUntil hs rest end es

until_behind : (hs : List ListenerState) (rest : ℕ) (end : Option Stop) (es : List Entry) → AreServedUntil hs rest end es → AreServedUntil hs rest end (unled es)
until_behind hs rest end [] s = s
until_behind hs rest end (Listener v call answer ∷ es) s = until_behind hs rest end es s
until_behind hs rest end (Step n ∷ es) s = s
until_behind hs rest end (Script call answer ∷ es) s = s
until_behind hs rest end (Fired event ∷ es) s = s
until_behind hs rest end (Work k ∷ es) s = s
until_behind hs rest end (Element ∷ es) s = s

pub calls_all : (low high : ℕ) (es : List Entry) → AreCallsInTurn low high es → calls_in es ≡ length es
calls_all low high [] a = refl
calls_all low high (Listener v call answer ∷ es) a = omega (arith, calls_all v high es a.2)
calls_all low high (Step n ∷ es) a = absurd a
calls_all low high (Script call answer ∷ es) a = absurd a
calls_all low high (Fired event ∷ es) a = absurd a
calls_all low high (Work k ∷ es) a = absurd a
calls_all low high (Element ∷ es) a = absurd a

-- what is known of the entries of a drain that ended so
pub record IsCutDrainFrom (blobs : List (List ℕ)) (p : PlayState) (rest : ℕ) (end : Option Stop) (es : List Entry) : Type 0 where
  pub front : led es ≡ []
  pub order : AreInDrainOrder blobs p.state es
  pub replays : IsReplay blobs p.state es
  pub served : AreServedUntil p.listeners rest end es
  pub left : p.left ≡ rest + calls_in es

fire_is : (blobs : List (List ℕ)) (p : PlayState) (event : Event) → slice_get p.state.element.queue 0 ≡ Some event
    → fire blobs p ≡ behind (Fired event ∷ []) (dispatch_from blobs event 0 p.listeners (without_first p.state) p.left)
fire_is blobs p event e = ap (λ (o : Option Event). fire_by blobs p (option_map (λ event. record { answer = event; state = without_first p.state }) o)) e

fired_cut : (blobs : List (List ℕ)) (p : PlayState) (rest : ℕ) (event : Event) (es : List Entry) (end : Option Stop) → slice_get p.state.element.queue 0 ≡ Some event → IsReplay blobs (without_first p.state) es
    → IsCutEvent event es p.listeners rest end → p.left ≡ rest + calls_in es → IsPartTo end (fire blobs p) blobs p.state rest (Fired event ∷ es)
fired_cut blobs p rest event es end e r c l =
    same_to (fire blobs p) (behind (Fired event ∷ []) (dispatch_from blobs event 0 p.listeners (without_first p.state) p.left)) end blobs p.state rest (Fired event ∷ es) (fire_is blobs p event e)
    (to_behind end (Fired event ∷ []) es blobs p.state (without_first p.state) rest (dispatch_from blobs event 0 p.listeners (without_first p.state) p.left) (fired_state blobs p.state event e)
    (cut_dispatch p.listeners c.v c.v c.n blobs event 0 es (without_first p.state) p.left rest c.last end (omega arith) c.turns r c.served c.many c.cut (omega (arith, l, calls_all 0 (c.v + 1) es c.turns))))

anew_cut : (m : ℕ) (blobs : List (List ℕ)) (now : PlayState) (rest : ℕ) (end : Option Stop) (es : List Entry) → now.left < m
    → ((m2 : ℕ) → now.left ≤ m2 → IsPartTo end (round_in (suc (steps_left now.state)) blobs (rounds_in m2 blobs) now) blobs now.state rest es)
    → IsPartTo end (rounds_in m blobs now) blobs now.state rest es
anew_cut zero blobs now rest end es lt f = absurd (omega (arith, lt))
anew_cut (suc m2) blobs now rest end es lt f = f m2 (omega (arith, lt))

one_cut_round : (k : ℕ) (es : List Entry) (n m : ℕ) (blobs : List (List ℕ)) (p : PlayState) (rest : ℕ) (end : Option Stop) → length es < k → IsCutDrainFrom blobs p rest end es → steps_left p.state < n → p.left ≤ m
    → IsPartTo end (round_in n blobs (rounds_in m blobs) p) blobs p.state rest es
one_cut_round zero es n m blobs p rest end short d steps calls = absurd (omega (arith, short))
one_cut_round (suc k) es zero m blobs p rest end short d steps calls = absurd (omega (arith, steps))
one_cut_round (suc k) [] (suc n) m blobs p rest end short d steps calls = none_to end (round_in (suc n) blobs (rounds_in m blobs) p) blobs p.state rest [] d.served refl
one_cut_round (suc k) (Work b ∷ es) (suc n) m blobs p rest end short d steps calls =
    let now : PlayState = record p { state = after_entry blobs p.state (Work b) } in
    let later : IsCutDrainFrom blobs now rest end es = record { front = d.served.0; order = d.order.1; replays = d.replays.1; served = d.served.1; left = d.left } in
    let same = quiet_round n blobs (rounds_in m blobs) p d.order.0.0 ∙ ap (λ low. step_by blobs (round_in n blobs (rounds_in m blobs)) p (next_entry_by low (is_turn_due p.state))) d.order.0.1 in
    same_to _ _ end blobs p.state rest (Work b ∷ es) same
    (to_behind end (Work b ∷ []) es blobs p.state now.state rest (round_in n blobs (rounds_in m blobs) now) refl (one_cut_round k es n m blobs now rest end (omega (arith, short)) later (omega (arith, work-falls blobs p.state b d.order.0.1, steps)) calls))
one_cut_round (suc k) (Element ∷ es) (suc n) m blobs p rest end short d steps calls =
    let now : PlayState = record p { state = after_entry blobs p.state Element } in
    let later : IsCutDrainFrom blobs now rest end es = record { front = d.served.0; order = d.order.1; replays = d.replays.1; served = d.served.1; left = d.left } in
    let same = quiet_round n blobs (rounds_in m blobs) p d.order.0.0.queue ∙ ap (λ low. step_by blobs (round_in n blobs (rounds_in m blobs)) p (next_entry_by low (is_turn_due p.state))) d.order.0.0.running
    ∙ ap (λ due. step_by blobs (round_in n blobs (rounds_in m blobs)) p (next_entry_by None due)) d.order.0.1 in
    same_to _ _ end blobs p.state rest (Element ∷ es) same
    (to_behind end (Element ∷ []) es blobs p.state now.state rest (round_in n blobs (rounds_in m blobs) now) refl (one_cut_round k es n m blobs now rest end (omega (arith, short)) later (omega (arith, turn-falls blobs p.state d.order.0.0.running d.order.0.1, steps)) calls))
one_cut_round (suc k) (Listener v call answer ∷ es) (suc n) m blobs p rest end short d steps calls = let none : Listener v call answer ∷ led es ≡ [] = d.front in absurd (cc)
one_cut_round (suc k) (Step x ∷ es) (suc n) m blobs p rest end short d steps calls = absurd d.order.0
one_cut_round (suc k) (Script call answer ∷ es) (suc n) m blobs p rest end short d steps calls = absurd d.order.0
one_cut_round (suc k) (Fired event ∷ es) (suc n) m blobs p rest end short d steps calls =
    let st : State = without_first p.state in
    let waits = first_waits p.state.element.queue event d.order.0 in
    let again : PlayState → Part = rounds_in m blobs in
    let g : DrainContinuations = record { again = again; next = λ now. step_by blobs (round_in n blobs again) now (next_entry now.state) } in
    let next : PlayState → Part = λ now. if_called (now.left == p.left) (fire_waiting waits.0 blobs g now) (again now) in
    let same = fired_state blobs p.state event d.order.0 in
    let replays : IsReplay blobs st es = subst (λ s. IsReplay blobs s es) same d.replays.1 in
    let order : AreInDrainOrder blobs st es = subst (λ s. AreInDrainOrder blobs s es) same d.order.1 in
    let first : round_in (suc n) blobs again p ≡ and_then (fire blobs p) next = ap (λ q. fire_waiting q blobs g p) waits.1 in
    elim d.served [
      | inl c ↦
          let cut = fired_cut blobs p rest event es end d.order.0 replays c d.left in
          same_to _ _ end blobs p.state rest (Fired event ∷ es) (first) (to_then end (fire blobs p) next blobs p.state rest (Fired event ∷ es) cut)
      | inr s ↦
          let b = behind_led blobs st p.listeners es in
          let middle : ℕ = rest + calls_in (unled es) in
          let now : PlayState = record { state = after_entries blobs st (led es); left = middle; listeners = heard_by event 0 (led es) p.listeners } in
          let both = replays_parts blobs st (led es) (unled es) (subst (λ xs. IsReplay blobs st xs) (sym (led_unled es)) replays) in
          let lefts : p.left ≡ middle + length (led es) = omega (arith, d.left, b.calls) in
          let part : fire blobs p ≡ record { entries = Fired event ∷ led es; now = now; stop = None } =
          fire_is blobs p event d.order.0 ∙ ap (behind (Fired event ∷ [])) (one_dispatch p.listeners blobs event 0 (led es) st p.left middle (subst (λ x. AreCallsInTurn 0 x (led es)) (omega arith) s.0) both.0 s.1 lefts) in
          let later : IsCutDrainFrom blobs now rest end (unled es) = record { front = b.front; order = b.order order; replays = both.1; served = until_behind now.listeners rest end es s.2; left = refl } in
          let less : length (unled es) < k = omega (arith, b.shorter, short) in
          let goes : IsPartTo end (next now) blobs now.state rest (unled es) = led_case es (IsPartTo end (next now) blobs now.state rest (unled es))
          (λ none.
          let queue : now.state.element.queue ≡ waits.0 = ap (λ xs. (after_entries blobs st xs).element.queue) none ∙ ap (λ q. drop 1 q) waits.1 in
          let stays : steps_left now.state ≡ steps_left p.state = ap (λ xs. steps_left (after_entries blobs st xs)) none in
          same_to _ _ end blobs now.state rest (unled es)
          (if_same now.left p.left (fire_waiting waits.0 blobs g now) (again now) (omega (arith, lefts, ap length none)) ∙ ap (λ q. fire_waiting q blobs g now) (sym queue))
          (one_cut_round k (unled es) (suc n) m blobs now rest end less later (omega (arith, stays, steps)) (omega (arith, lefts, calls))))
          (λ some. same_to _ _ end blobs now.state rest (unled es) (if_other now.left p.left (fire_waiting waits.0 blobs g now) (again now) (omega (arith, lefts, some)))
          (anew_cut m blobs now rest end (unled es) (omega (arith, lefts, some, calls)) (λ m2 le. one_cut_round k (unled es) (suc (steps_left now.state)) m2 blobs now rest end less later (omega arith) le))) in
          let whole : IsPartTo end (behind (Fired event ∷ led es) (next now)) blobs p.state rest ((Fired event ∷ led es) ++ unled es) =
          to_behind end (Fired event ∷ led es) (unled es) blobs p.state now.state rest (next now) (ap (λ x. after_entries blobs x (led es)) same) goes in
          same_to _ _ end blobs p.state rest (Fired event ∷ es) (first ∙ ap (λ (x : Part). and_then x next) part)
          (subst (λ xs. IsPartTo end (behind (Fired event ∷ led es) (next now)) blobs p.state rest (Fired event ∷ xs)) (led_unled es) whole)
    ]

-- entries of a drain that ended so are those of the play up to there
pub one_cut_drain : (es : List Entry) (blobs : List (List ℕ)) (p : PlayState) (rest : ℕ) (end : Option Stop) → IsCutDrainFrom blobs p rest end es → IsPartTo end (drain_played blobs p) blobs p.state rest es
unfolding drain_played
one_cut_drain es blobs p rest end d = one_cut_round (suc (length es)) es (suc (steps_left p.state)) p.left blobs p rest end (omega arith) d (omega arith) (omega arith)
