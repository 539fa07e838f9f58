-- What is left to do at the engine.
use Rattle.std.proofs.Common.{◌≡◌, ◌<◌, ℕ, zero, suc, List, [], ◌∷◌, length, refl, sym, ◌∙◌, ap, arith, drop, get_or}
use Rattle.std.specs.Prelude.{Option, Some, None, true, false, Bool, not, ◌&&◌, ◌||◌, ◌==◌, map, option_map, slice_get}
use Rattle.std.proofs.lemmas.List.Quantifiers.{position-Some}
use Rattle.mse_calls.specs.declared.events.Event.{Event}
use Rattle.buffer_state.specs.declared.running.Running.{Running}
use Rattle.buffer_state.specs.declared.running.Running.TheVariants.{Nothing, Append, Removal}
use Rattle.buffer_state.specs.State.{Content, Feed, Surroundings, is_updating}
use Rattle.buffer_state.specs.Turns.{turn_result_by_work}
use Rattle.source_buffers.specs.All.{is_updating_slot, lowest_running}
use Rattle.source_buffers.specs.Slots.{BuffersResult, SlotResult, buffers_turn, buffers_turn_of, slot_turn_of, turn_by_slot, turn_in_slot}
use Rattle.source_buffers.specs.State.{BufferState, BufferStates, all_kept_running, running_of, running_of_all}
use Rattle.source_buffers.proofs.KeptParts.{same_running as kept_are}
use Rattle.element_seek.specs.declared.scene.Scene.{Scene}
use Rattle.element_seek.specs.State.{PlayerState, has_ended}
use Rattle.element_seek.specs.Turns.{after_turn, is_due, is_end_due, is_seek_done, seek_turn}
use Rattle.media_element.specs.Queueing.{after_own_turn}
use Rattle.mse_engine.specs.Scenes.{scene_in}
use Rattle.mse_engine.specs.Signals.{step}
use Rattle.mse_engine.specs.State.{State, core_of}
use Rattle.mse_engine.specs.Replies.{surroundings_in}
use Rattle.mse_engine.specs.Work.{after_element_turn, after_work, is_turn_due, fire_result, running_in, turn_effect, without_first, work_result}
use Rattle.mse_engine.specs.Progress.{turns_left}
use Rattle.mse_engine.specs.Standing.{IsFired, KeptEngine, Stands}
use Rattle.script_run.specs.Progress.{HasFewerEvents, HasFewerTurns, events_left, own_turns_left}

-- ---- an event

fired_some : (q : List Event) (st : State) (a b : KeptEngine) (event : Event)
    → IsFired (Some event) a b (option_map (λ e. record { answer = e; state = without_first st }) (slice_get q 0)) → 0 < length q
fired_some [] st a b event f = absurd f
fired_some (e ∷ q) st a b event f = omega arith

fired_state : (q : List Event) (st : State) (a b : KeptEngine) (event : Event)
    → IsFired (Some event) a b (option_map (λ e. record { answer = e; state = without_first st }) (slice_get q 0)) → Stands b (without_first st)
fired_state [] st a b event f = absurd f
fired_state (e ∷ q) st a b event f = f.1

shorter : (q : List Event) → 0 < length q → length (drop 1 q) < length q
shorter [] some = absurd (omega (arith, some))
shorter (e ∷ q) some = omega arith

queue_of : (k : KeptEngine) (st : State) → Stands k st → k.element.queue ≡ st.element.queue
queue_of k st s = ap (λ e. e.queue) s.element

seeking_of : (k : KeptEngine) (st : State) → Stands k st → k.element.player.seeking ≡ st.element.player.seeking
seeking_of k st s = ap (λ e. e.player.seeking) s.element

finished_of : (k : KeptEngine) (st : State) → Stands k st → k.element.player.finished ≡ st.element.player.finished
finished_of k st s = ap (λ e. e.player.finished) s.element

pub fired_taken : (a b : KeptEngine) (st : State) (event : Event) → Stands a st → IsFired (Some event) a b (fire_result st) → b.buffers ≡ a.buffers → HasFewerEvents a b
fired_taken a b st event s f same =
    let now : Stands b (without_first st) = fired_state st.element.queue st a b event f in
    let some : 0 < length st.element.queue = fired_some st.element.queue st a b event f in
    let fewer : events_left b < events_left a = rw (queue_of b (without_first st) now, queue_of a st s) (shorter st.element.queue some) in
    let player : own_turns_left b ≡ own_turns_left a =
    rw (seeking_of b (without_first st) now, finished_of b (without_first st) now, seeking_of a st s, finished_of a st s) refl in
    record { fewer = fewer; calm = record { buffers = same; turns = player } }

-- ---- a turn

turns_of : PlayerState → ℕ
turns_of p = turns_left p.seeking p.finished

-- what is left of the end where the level is taken anew
finished_then : Scene → PlayerState → Bool
finished_then scene p = p.finished && has_ended scene p

after_seek_fewer : (seeking finished later : Bool) → seeking ≡ true → turns_left false later < turns_left seeking finished
after_seek_fewer true finished true e = omega arith
after_seek_fewer true finished false e = omega arith
after_seek_fewer false finished later e = absurd (cc)

after_end_fewer : (seeking finished ended : Bool) → seeking ≡ false → finished ≡ false → ended ≡ true → turns_left seeking (true && ended) < turns_left seeking finished
after_end_fewer true finished ended s e f = absurd (cc)
after_end_fewer false true ended s e f = absurd (cc)
after_end_fewer false false false s e f = absurd (cc)
after_end_fewer false false true s e f = omega arith

and_first : (a b : Bool) → (a && b) ≡ true → a ≡ true
and_first true b e = refl
and_first false b e = absurd (cc)

and_second : (a b : Bool) → (a && b) ≡ true → b ≡ true
and_second true b e = e
and_second false b e = absurd (cc)

not_true : (b : Bool) → not b ≡ true → b ≡ false
not_true true e = absurd (cc)
not_true false e = refl

or_right : (a b : Bool) → a ≡ false → (a || b) ≡ true → b ≡ true
or_right true b e f = absurd (cc)
or_right false b e f = f

-- a turn that is due leaves fewer
turn_fewer : (done : Bool) (scene : Scene) (p : PlayerState) → is_seek_done p ≡ done → is_due scene p ≡ true
    → turns_left (after_turn scene p).state.seeking (finished_then scene (after_turn scene p).state) < turns_of p
unfolding finished_then turns_of
turn_fewer true scene p done due =
    rw done (after_seek_fewer p.seeking p.finished (finished_then scene (seek_turn p).state) (and_first p.seeking _ done))
turn_fewer false scene p done due =
    let end : is_end_due scene p ≡ true = or_right (is_seek_done p) (is_end_due scene p) done due in
    let rest = and_second (p.error == 0) _ (and_second (not p.seeking) _ end) in
    rw (done, end) (after_end_fewer p.seeking p.finished (has_ended scene p) (not_true p.seeking (and_first (not p.seeking) _ end)) (not_true p.finished (and_second (has_ended scene p) _ rest)) (and_first (has_ended scene p) _ rest))

turned : State → State
turned st = step (core_of st) [] (after_own_turn (scene_in st) st.element)

turned_is : (st new : State) (due : Bool) → is_turn_due st ≡ due → after_element_turn st ≡ Some new → (is_turn_due st ≡ true) × (new ≡ turned st)
unfolding turned
turned_is st new true d e = let f = rw d at e in (d, cc)
turned_is st new false d e = let f = rw d at e in absurd (let h : ⊥ = cc in h)

turned_seeking : (st : State) → (turned st).element.player.seeking ≡ (after_turn (scene_in st) st.element.player).state.seeking
unfolding turned
turned_seeking st = refl

turned_finished : (st : State) → (turned st).element.player.finished ≡ finished_then (scene_in st) (after_turn (scene_in st) st.element.player).state
unfolding turned finished_then
turned_finished st = refl

pub turn_taken : (a b : KeptEngine) (st new : State) → Stands a st → after_element_turn st ≡ Some new → Stands b new → b.buffers ≡ a.buffers → HasFewerTurns a b
unfolding turns_of
turn_taken a b st new s e t same =
    let is = turned_is st new (is_turn_due st) refl e in
    let seeking : b.element.player.seeking ≡ (after_turn (scene_in st) st.element.player).state.seeking = seeking_of b new t ∙ ap (λ (x : State). x.element.player.seeking) is.1 ∙ turned_seeking st in
    let finished : b.element.player.finished ≡ finished_then (scene_in st) (after_turn (scene_in st) st.element.player).state =
    finished_of b new t ∙ ap (λ (x : State). x.element.player.finished) is.1 ∙ turned_finished st in
    record {
      fewer = rw (seeking, finished, seeking_of a st s, finished_of a st s) (turn_fewer (is_seek_done st.element.player) (scene_in st) st.element.player refl is.0);
      buffers = same;
    }

pub due_turns : (st : State) → is_turn_due st ≡ true → after_element_turn st ≡ None → ⊥
due_turns st due none = let e = rw due at none in cc

-- ---- work

by_work : (r : Running) (a : Surroundings) (f : Feed) (c : Content) → is_updating r ≡ true → slot_turn_of (turn_result_by_work r a f c) ≡ None → ⊥
by_work Nothing a f c updating none = cc
by_work Append a f c updating none = cc
by_work (Removal start end) a f c updating none = cc

turn_of_slot : (a : Surroundings) (slot : Option BufferState) → is_updating_slot (running_of slot) ≡ true → turn_in_slot a slot ≡ None → ⊥
turn_of_slot a None updating none = cc
turn_of_slot a (Some b) updating none = by_work b.feed.running a b.feed b.content updating none

none_turned : (k : ℕ) (bs : BufferStates) (r : Option SlotResult) → buffers_turn_of k bs r ≡ None → r ≡ None
none_turned k bs None e = refl
none_turned k bs (Some r) e = absurd (let h : ⊥ = cc in h)

-- the slot of a number at which something runs
turn_at : (k0 : ℕ) (bs0 : BufferStates) (a : Surroundings) (bs : BufferStates) (k : ℕ) → is_updating_slot (get_or (map running_of bs) k None) ≡ true
    → turn_by_slot (slice_get bs k) k0 a bs0 ≡ None → ⊥
turn_at k0 bs0 a [] k updating none = cc
turn_at k0 bs0 a (b ∷ bs) zero updating none = turn_of_slot a b updating (none_turned k0 bs0 (turn_in_slot a b) none)
turn_at k0 bs0 a (b ∷ bs) (suc k) updating none = turn_at k0 bs0 a bs k updating none

none_effect : (k : ℕ) (st : State) (r : Option BuffersResult) → work_result (option_map (λ result. turn_effect k result (core_of st)) r) st ≡ None → r ≡ None
none_effect k st None e = refl
none_effect k st (Some r) e = absurd (let h : ⊥ = cc in h)

pub running_works : (st : State) (k : ℕ) → running_in st ≡ Some k → after_work k st ≡ None → ⊥
running_works st k running none =
    turn_at k st.buffers (surroundings_in k (core_of st).source) st.buffers k
    (position-Some is_updating_slot (running_of_all st.buffers) k None running).1
    (none_effect k st (buffers_turn k (surroundings_in k (core_of st).source) st.buffers) none)

pub same_running : (a b : KeptEngine) (st new : State) → Stands a st → Stands b new → b.buffers ≡ a.buffers → running_in new ≡ running_in st
same_running a b st new s t same =
    ap lowest_running (sym (kept_are b.buffers new.buffers t.buffers) ∙ ap all_kept_running same ∙ kept_are a.buffers st.buffers s.buffers)
