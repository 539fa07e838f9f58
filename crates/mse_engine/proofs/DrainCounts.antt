-- How many steps come by themselves: steps of work, turns of the element, and events that are fired.
use Rattle.std.proofs.Common.{◌≡◌, ◌∙◌, ℕ, ◌<◌, ◌≤◌, Bool, true, false, cond, List, [], ◌∷◌, ◌++◌, length, drop, refl, ap, sym, arith, append_assoc}
use Rattle.std.specs.Prelude.{Option, Some, None, slice_get, option_map}
use Rattle.std.proofs.lemmas.List.{append-nil, drop_all}
use Rattle.std.proofs.Math.Seq.{drop-append_seam}
use Rattle.mse_calls.specs.AnswerAndState.{AnswerAndState}
use Rattle.mse_calls.specs.declared.events.Event.{Event}
use Rattle.mse_calls.specs.declared.entry.Entry.{Entry}
use Rattle.mse_calls.specs.declared.entry.Entry.TheVariants.{Step, Script, Listener, Fired, Work, Element}
use Rattle.element_seek.specs.Playing.{after_fail}
use Rattle.element_seek.specs.Seeking.{after_load}
use Rattle.element_seek.specs.Settling.{after_settle}
use Rattle.media_element.specs.State.{ElementState}
use Rattle.media_element.specs.Queueing as queueing
use Rattle.media_element.specs.DurationChange.{after_change}
use Rattle.mse_engine.specs.State.{Core, State, core_of}
use Rattle.mse_engine.specs.Scenes.{SourceView, core_view, scene_at, scene_in}
use Rattle.mse_engine.specs.Signals.{Signal, Tell, DurationChanged, Loaded, StreamEnded, after_signal, after_signals, after_settling, step}
use Rattle.mse_engine.specs.CoreEffects.{CoreEffect}
use Rattle.mse_engine.specs.Work.{work_effect, work_result, after_work, after_element_turn, is_turn_due, without_first, fire_result}
use Rattle.mse_engine.specs.Run.{step_meaning, fire_meaning, entry_meaning, after_entries, fired_events}
use Rattle.mse_engine.specs.Progress.{work_left_in, turns_left_in, IsLessWork, IsFewerTurns, IsOneEventLess}
use Rattle.mse_engine.specs.DrainCounts.{AreStepsByThemselves, HasStepCounts, works_in, turns_in, events_queued_in}
use Rattle.mse_engine.proofs.Progress.{work-less, turn-fewer, fire-leaves, turned}

-- ---- what an entry leaves

done : (o : Option State) (st : State) → (step_meaning o st).holds → o ≡ Some (step_meaning o st).state
done None st h = absurd h
done (Some new) st h = refl

worked : (blobs : List (List ℕ)) (k : ℕ) (st : State) → (entry_meaning blobs st (Work k)).holds → IsLessWork st (entry_meaning blobs st (Work k)).state
worked blobs k st h = work-less k st (entry_meaning blobs st (Work k)).state (done (after_work k st) st h)

turned_once : (blobs : List (List ℕ)) (st : State) → (entry_meaning blobs st Element).holds → IsFewerTurns st (entry_meaning blobs st Element).state
turned_once blobs st h = turn-fewer st (entry_meaning blobs st Element).state (done (after_element_turn st) st h)

fired_by : (o : Option (AnswerAndState Event State)) (event : Event) (st : State) → fire_result st ≡ o → (fire_meaning o event st).holds → IsOneEventLess st (fire_meaning o event st).state
fired_by None event st e h = absurd h
fired_by (Some a) event st e h = fire-leaves st a e

fired : (blobs : List (List ℕ)) (event : Event) (st : State) → (entry_meaning blobs st (Fired event)).holds → IsOneEventLess st (entry_meaning blobs st (Fired event)).state
fired blobs event st h = fired_by (fire_result st) event st refl h

-- ---- steps of work and turns

-- where no work is left there come turns alone, no more than are left
turning_alone : (blobs : List (List ℕ)) (entries : List Entry) (st : State) → work_left_in st ≡ 0 → AreStepsByThemselves blobs st entries
    → (works_in entries ≡ 0) × (turns_in entries ≤ turns_left_in st)
turning_alone blobs [] st none s = (refl, omega arith)
turning_alone blobs (Fired event ∷ entries) st none s =
    let l = fired blobs event st s.0 in
    let r = turning_alone blobs entries (entry_meaning blobs st (Fired event)).state (l.work ∙ none) s.1 in
    (omega (arith, r.0), omega (arith, r.1, l.turns))
turning_alone blobs (Work k ∷ entries) st none s =
    let l : work_left_in (entry_meaning blobs st (Work k)).state < work_left_in st = worked blobs k st s.0 in
    absurd (omega (arith, l, none))
turning_alone blobs (Element ∷ entries) st none s =
    let l = turned_once blobs st s.0.1 in
    let r = turning_alone blobs entries (entry_meaning blobs st Element).state (l.work ∙ none) s.1 in
    (omega (arith, r.0), omega (arith, r.1, l.turns))
turning_alone blobs (Step n ∷ entries) st none s = absurd s.0
turning_alone blobs (Script call answer ∷ entries) st none s = absurd s.0
turning_alone blobs (Listener w call answer ∷ entries) st none s = absurd s.0

counts : (blobs : List (List ℕ)) (entries : List Entry) (st : State) → AreStepsByThemselves blobs st entries → HasStepCounts blobs st entries
counts blobs [] st s = record { working = []; turning = []; parts = refl; works = omega arith; no_turns = refl; turns = omega arith; no_works = refl }
counts blobs (Fired event ∷ entries) st s =
    let l = fired blobs event st s.0 in
    let r = counts blobs entries (entry_meaning blobs st (Fired event)).state s.1 in
    record {
      working = Fired event ∷ r.working;
      turning = r.turning;
      parts = ap (λ es. Fired event ∷ es) r.parts;
      works = omega (arith, r.works, l.work);
      no_turns = omega (arith, r.no_turns);
      turns = r.turns;
      no_works = r.no_works;
    }
counts blobs (Work k ∷ entries) st s =
    let l : work_left_in (entry_meaning blobs st (Work k)).state < work_left_in st = worked blobs k st s.0 in
    let r = counts blobs entries (entry_meaning blobs st (Work k)).state s.1 in
    record {
      working = Work k ∷ r.working;
      turning = r.turning;
      parts = ap (λ es. Work k ∷ es) r.parts;
      works = omega (arith, r.works, l);
      no_turns = omega (arith, r.no_turns);
      turns = r.turns;
      no_works = r.no_works;
    }
counts blobs (Element ∷ entries) st s =
    let r = turning_alone blobs (Element ∷ entries) st s.0.0 s in
    record { working = []; turning = Element ∷ entries; parts = refl; works = omega arith; no_turns = refl; turns = r.1; no_works = r.0 }
counts blobs (Step n ∷ entries) st s = absurd s.0
counts blobs (Script call answer ∷ entries) st s = absurd s.0
counts blobs (Listener w call answer ∷ entries) st s = absurd s.0

pub counted : (blobs : List (List ℕ)) (st : State) (entries : List Entry) → AreStepsByThemselves blobs st entries → HasStepCounts blobs st entries
counted blobs st entries s = counts blobs entries st s

-- ---- events: a step queues behind those that wait

record IsQueuedBehind (old new : List Event) : Type 0 where
  more : List Event
  is : new ≡ old ++ more

behind_both : (a b c : List Event) → IsQueuedBehind a b → IsQueuedBehind b c → IsQueuedBehind a c
behind_both a b c p q = record { more = p.more ++ q.more; is = q.is ∙ ap (λ xs. xs ++ q.more) p.is ∙ append_assoc a p.more q.more }

behind_signal : (v : SourceView) (s : Signal) (e : ElementState) → IsQueuedBehind e.queue (after_signal v s e).queue
behind_signal v (Tell events) e = record { more = events; is = refl }
behind_signal v (DurationChanged d) e = record { more = queueing.element_events (after_change d (scene_at e.player.position v) e.player).answer; is = refl }
behind_signal v (StreamEnded kind) e = record { more = queueing.element_events (after_fail kind e.player).answer; is = refl }
behind_signal v Loaded e = record { more = queueing.element_events (after_load (scene_at e.player.position v) e.player).answer; is = refl }

behind_signals : (v : SourceView) (signals : List Signal) (e : ElementState) → IsQueuedBehind e.queue (after_signals v signals e).queue
behind_signals v [] e = record { more = []; is = sym (append-nil e.queue) }
behind_signals v (s ∷ signals) e = behind_both e.queue (after_signal v s e).queue (after_signals v signals (after_signal v s e)).queue (behind_signal v s e) (behind_signals v signals (after_signal v s e))

behind_settling : (v : SourceView) (e : ElementState) → IsQueuedBehind e.queue (after_settling v e).queue
behind_settling v e = record { more = queueing.element_events (after_settle (scene_at e.player.position v) e.player).answer; is = refl }

behind_step : (c : Core) (signals : List Signal) (e : ElementState) → IsQueuedBehind e.queue (step c signals e).element.queue
behind_step c signals e =
    let v : SourceView = core_view c in
    let told : ElementState = after_signals v signals e in
    behind_both e.queue told.queue (after_settling v told).queue (behind_signals v signals e) (behind_settling v told)

behind_work : (o : Option CoreEffect) (st : State) → IsQueuedBehind st.element.queue (step_meaning (work_result o st) st).state.element.queue
behind_work None st = record { more = []; is = sym (append-nil st.element.queue) }
behind_work (Some m) st = behind_step m.core m.signals st.element

behind_turned : (st : State) → IsQueuedBehind st.element.queue (turned st).element.queue
behind_turned st =
    let e : ElementState = queueing.after_own_turn (scene_in st) st.element in
    let told : List Event = queueing.element_events (queueing.change_by_turn (scene_in st) st.element.player).answer in
    behind_both st.element.queue e.queue (turned st).element.queue (record { more = told; is = refl }) (behind_step (core_of st) [] e)

behind_turn : (b : Bool) (st : State) → IsQueuedBehind st.element.queue (step_meaning (cond b (Some (turned st)) None) st).state.element.queue
behind_turn true st = behind_turned st
behind_turn false st = record { more = []; is = sym (append-nil st.element.queue) }

-- ---- what is queued and what is fired

-- behind the events that wait those that a step queued, and others behind them
queued_more : (old new later : List Event) → IsQueuedBehind old new → old ++ (drop (length old) new ++ later) ≡ new ++ later
queued_more old new later p =
    ap (λ xs. old ++ (drop (length old) xs ++ later)) p.is
    ∙ ap (λ xs. old ++ (xs ++ later)) (drop-append_seam old p.more)
    ∙ sym (append_assoc old p.more later)
    ∙ ap (λ xs. xs ++ later) (sym p.is)

-- the event that is fired was the first
first_fired : (q : List Event) (event : Event) (st : State) → (fire_meaning (option_map (λ x. record { answer = x; state = without_first st }) (slice_get q 0)) event st).holds
    → q ≡ event ∷ drop 1 q
first_fired [] event st h = absurd h
first_fired (x ∷ xs) event st h = ap (λ y. y ∷ xs) (sym h)

fired_state : (q : List Event) (event : Event) (st : State) → (fire_meaning (option_map (λ x. record { answer = x; state = without_first st }) (slice_get q 0)) event st).holds
    → (fire_meaning (option_map (λ x. record { answer = x; state = without_first st }) (slice_get q 0)) event st).state ≡ without_first st
fired_state [] event st h = absurd h
fired_state (x ∷ xs) event st h = refl

-- nothing is queued where an event is fired
none_queued : (q : List Event) → drop (length q) (drop 1 q) ≡ []
none_queued [] = refl
none_queued (x ∷ xs) = drop_all (length (x ∷ xs)) xs (omega arith)

events : (blobs : List (List ℕ)) (entries : List Entry) (st : State) → AreStepsByThemselves blobs st entries
    → st.element.queue ++ events_queued_in blobs st entries ≡ fired_events entries ++ (after_entries blobs st entries).element.queue
events blobs [] st s = append-nil st.element.queue
events blobs (Fired event ∷ entries) st s =
    let new : State = (entry_meaning blobs st (Fired event)).state in
    let later : List Event = events_queued_in blobs new entries in
    let queue : new.element.queue ≡ drop 1 st.element.queue = ap (λ (x : State). x.element.queue) (fired_state st.element.queue event st s.0) in
    let none : drop (length st.element.queue) new.element.queue ≡ [] = ap (λ xs. drop (length st.element.queue) xs) queue ∙ none_queued st.element.queue in
    ap (λ xs. st.element.queue ++ (xs ++ later)) none
    ∙ ap (λ xs. xs ++ later) (first_fired st.element.queue event st s.0)
    ∙ ap (λ xs. event ∷ (xs ++ later)) (sym queue)
    ∙ ap (λ xs. event ∷ xs) (events blobs entries new s.1)
events blobs (Work k ∷ entries) st s =
    let new : State = (entry_meaning blobs st (Work k)).state in
    queued_more st.element.queue new.element.queue (events_queued_in blobs new entries) (behind_work (work_effect k (core_of st)) st)
    ∙ events blobs entries new s.1
events blobs (Element ∷ entries) st s =
    let new : State = (entry_meaning blobs st Element).state in
    queued_more st.element.queue new.element.queue (events_queued_in blobs new entries) (behind_turn (is_turn_due st) st)
    ∙ events blobs entries new s.1
events blobs (Step n ∷ entries) st s = absurd s.0
events blobs (Script call answer ∷ entries) st s = absurd s.0
events blobs (Listener w call answer ∷ entries) st s = absurd s.0

pub queued-and-fired : (blobs : List (List ℕ)) (st : State) (entries : List Entry) → AreStepsByThemselves blobs st entries
    → st.element.queue ++ events_queued_in blobs st entries ≡ fired_events entries ++ (after_entries blobs st entries).element.queue
queued-and-fired blobs st entries s = events blobs entries st s
