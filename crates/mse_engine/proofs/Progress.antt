-- A step of work leaves less work, a turn of the element fewer turns and the work, and a fired event both.
use Rattle.std.proofs.Common.{◌≡◌, ◌∙◌, ℕ, zero, suc, ◌+◌, ◌<◌, ◌≤◌, Bool, true, false, not, ◌&&◌, ◌||◌, ◌==◌, cond, List, [], ◌∷◌, length, drop, refl, ap, sym, subst, arith}
use Rattle.std.specs.Prelude.{Option, Some, None, slice_get, slice_set, option_map}
use Rattle.mse_calls.specs.AnswerAndState.{AnswerAndState}
use Rattle.mse_calls.specs.Level.{has_current_data}
use Rattle.mse_calls.specs.declared.events.Event.{Event}
use Rattle.byte_stream.specs.Readings.{ByteItem, items_in}
use Rattle.buffer_state.specs.declared.running.Running.{Running}
use Rattle.buffer_state.specs.declared.running.Running.TheVariants.{Nothing, Append, Removal}
use Rattle.buffer_state.specs.State.{Feed, Content, Surroundings, feed_after, next_item}
use Rattle.buffer_state.specs.Replies.{CallResult}
use Rattle.buffer_state.specs.Turns.{ItemResult, Done, AppendError, item_result, item_turn_result, append_turn_result, turn_result_by_work, turn_result}
use Rattle.source_buffers.specs.State.{BufferState, BufferStates}
use Rattle.source_buffers.specs.Slots.{SlotResult, BuffersResult, slot_turn_of, turn_in_slot, turn_by_slot, buffers_turn_of, buffers_turn}
use Rattle.element_seek.specs.State.{PlayerState, has_ended}
use Rattle.element_seek.specs.Turns.{is_seek_done, is_end_due, seek_turn, end_turn, no_turn}
use Rattle.media_element.specs.Queueing.{after_own_turn}
use Rattle.mse_engine.specs.State.{State, core_of}
use Rattle.mse_engine.specs.Scenes.{SourceView, core_view, scene_at, scene_in}
use Rattle.mse_engine.specs.Signals.{step}
use Rattle.mse_engine.specs.Replies.{surroundings_in}
use Rattle.mse_engine.specs.Work.{turn_effect, work_result, after_work, after_element_turn, is_turn_due, without_first, fire_result}
use Rattle.mse_engine.specs.Progress.{work_left_by, slot_work_left, work_left, turns_left, IsLessWork, IsFewerTurns, IsOneEventLess}

-- ---- one step of the work of a buffer

drop_some : {X : Type 0} (n : ℕ) (xs : List X) (y : X) → slice_get xs n ≡ Some y → drop n xs ≡ y ∷ drop (suc n) xs
drop_some n [] y e = absurd (cc)
drop_some zero (x ∷ xs) y e = cc
drop_some (suc n) (x ∷ xs) y e = drop_some n xs y e

-- the items that are left behind one that is given
pub length-left : {X : Type 0} (n : ℕ) (xs : List X) (y : X) → slice_get xs n ≡ Some y → length (drop n xs) ≡ suc (length (drop (n + 1) xs))
length-left n xs y e =
    let one : n + 1 ≡ suc n = omega arith in
    ap length (drop_some n xs y e) ∙ sym (ap (λ m. suc (length (drop m xs))) one)

abbrev left_behind : CallResult → ℕ
left_behind r = work_left_by r.feed.running r.feed

item_fewer : (x : ByteItem) (t : ItemResult) (a : Surroundings) (f : Feed) → f.running ≡ Append
    → length (drop f.reading.string.taken (items_in f.reading)) ≡ suc (length (drop (f.reading.string.taken + 1) (items_in f.reading)))
    → left_behind (item_turn_result x t a f) < suc (length (drop f.reading.string.taken (items_in f.reading)))
item_fewer x (Done c e) a f r l =
    let here : work_left_by f.running (feed_after (Some x) f) ≡ suc (length (drop (f.reading.string.taken + 1) (items_in f.reading))) = ap (λ w. work_left_by w (feed_after (Some x) f)) r in
    omega (arith, here, l)
item_fewer x (AppendError fault at c e) a f r l = omega arith

append_fewer : (x : Option ByteItem) (a : Surroundings) (f : Feed) (c : Content) → f.running ≡ Append → next_item f ≡ x
    → left_behind (append_turn_result x a f c) < suc (length (drop f.reading.string.taken (items_in f.reading)))
append_fewer None a f c r e = omega arith
append_fewer (Some x) a f c r e =
    item_fewer x (item_result x c a.duration) a f r (length-left f.reading.string.taken (items_in f.reading) x e)

by_work : (r : Running) (a : Surroundings) (f : Feed) (c : Content) (new : CallResult) → f.running ≡ r → turn_result_by_work r a f c ≡ Some new → left_behind new < work_left_by r f
by_work Nothing a f c new r e = absurd (cc)
by_work Append a f c new r e =
    let same : append_turn_result (next_item f) a f c ≡ new = cc in
    subst (λ (x : CallResult). left_behind x < work_left_by Append f) same (append_fewer (next_item f) a f c r refl)
by_work (Removal start end) a f c new r e =
    let same : new.feed.running ≡ Nothing = ap (λ (o : Option CallResult). running_in o) (sym e) in
    let none : left_behind new ≡ 0 = ap (λ x. work_left_by x new.feed) same in
    omega (arith, none)
  where
    running_in : Option CallResult → Running
    running_in None = Nothing
    running_in (Some r) = r.feed.running

-- ---- in all slots

by_turn : (o : Option CallResult) (b : BufferState) (new : SlotResult) → ((r : CallResult) → o ≡ Some r → left_behind r < slot_work_left (Some b))
    → slot_turn_of o ≡ Some new → slot_work_left new.slot < slot_work_left (Some b)
by_turn None b new f e = absurd (cc)
by_turn (Some r) b new f e =
    let same : Some (record { feed = r.feed; content = r.content }) ≡ new.slot = ap (λ (o : Option SlotResult). slot_in o) e in
    subst (λ (x : Option BufferState). slot_work_left x < slot_work_left (Some b)) same (f r refl)
  where
    slot_in : Option SlotResult → Option BufferState
    slot_in None = None
    slot_in (Some s) = s.slot

slot_fewer : (s : Option BufferState) (a : Surroundings) (new : SlotResult) → turn_in_slot a s ≡ Some new → slot_work_left new.slot < slot_work_left s
slot_fewer None a new e = absurd (cc)
slot_fewer (Some b) a new e = by_turn (turn_result a b.feed b.content) b new (λ r is. by_work b.feed.running a b.feed b.content r refl is) e

pub left-falls : (bs : BufferStates) (k : ℕ) (a b : Option BufferState) → slice_get bs k ≡ Some a → slot_work_left b < slot_work_left a → work_left (slice_set bs k b) < work_left bs
left-falls [] k a b e l = absurd (cc)
left-falls (x ∷ bs) zero a b e l =
    let is : x ≡ a = cc in
    let same : slot_work_left x ≡ slot_work_left a = ap slot_work_left is in
    omega (arith, same)
left-falls (x ∷ bs) (suc k) a b e l = let r = left-falls bs k a b e l in omega (arith, r)

by_result : (o : Option SlotResult) (s : Option BufferState) (k : ℕ) (bs : BufferStates) (new : BuffersResult) → slice_get bs k ≡ Some s
    → ((r : SlotResult) → o ≡ Some r → slot_work_left r.slot < slot_work_left s)
    → buffers_turn_of k bs o ≡ Some new → work_left new.buffers < work_left bs
by_result None s k bs new at f e = absurd (cc)
by_result (Some r) s k bs new at f e =
    let same : slice_set bs k r.slot ≡ new.buffers = ap (λ (o : Option BuffersResult). buffers_in o) e in
    subst (λ (x : BufferStates). work_left x < work_left bs) same (left-falls bs k s r.slot at (f r refl))
  where
    buffers_in : Option BuffersResult → BufferStates
    buffers_in None = bs
    buffers_in (Some r) = r.buffers

by_slot : (o : Option (Option BufferState)) (k : ℕ) (a : Surroundings) (bs : BufferStates) (new : BuffersResult) → slice_get bs k ≡ o → turn_by_slot o k a bs ≡ Some new → work_left new.buffers < work_left bs
by_slot None k a bs new at e = absurd (cc)
by_slot (Some s) k a bs new at e = by_result (turn_in_slot a s) s k bs new at (λ r is. slot_fewer s a r is) e

pub buffers-fewer : (k : ℕ) (a : Surroundings) (bs : BufferStates) (new : BuffersResult) → buffers_turn k a bs ≡ Some new → work_left new.buffers < work_left bs
buffers-fewer k a bs new e = by_slot (slice_get bs k) k a bs new refl e

-- ---- a step of work

pub turns-most : (s f : Bool) → turns_left s f ≤ 2
turns-most true f = omega arith
turns-most false true = omega arith
turns-most false false = omega arith

by_effect : (o : Option BuffersResult) (k : ℕ) (st new : State) → ((r : BuffersResult) → o ≡ Some r → work_left r.buffers < work_left st.buffers)
    → work_result (option_map (λ result. turn_effect k result (core_of st)) o) st ≡ Some new → IsLessWork st new
by_effect None k st new f e = absurd (cc)
by_effect (Some r) k st new f e =
    let same : r.buffers ≡ new.buffers = ap (λ (o : Option State). buffers_in o) e in
    subst (λ (x : BufferStates). work_left x < work_left st.buffers) same (f r refl)
  where
    buffers_in : Option State → BufferStates
    buffers_in None = r.buffers
    buffers_in (Some x) = x.buffers

pub work-less : (k : ℕ) (st new : State) → after_work k st ≡ Some new → IsLessWork st new
work-less k st new e = by_effect (buffers_turn k (surroundings_in k (core_of st).source) st.buffers) k st new (λ r is. buffers-fewer k (surroundings_in k (core_of st).source) st.buffers r is) e

-- ---- a turn of the element

-- also where the end of the step looks at what was told again
seek_fewer : (s f g : Bool) → s ≡ true → turns_left false g < turns_left s f
seek_fewer true f true e = omega arith
seek_fewer true f false e = omega arith
seek_fewer false f g e = absurd (cc)

end_fewer : (s f h : Bool) → (not s && (h && not f)) ≡ true → turns_left s (true && h) < turns_left s f
end_fewer true f h e = absurd (cc)
end_fewer false f false e = absurd (cc)
end_fewer false true true e = absurd (cc)
end_fewer false false true e = omega arith

both_first : (a b : Bool) → (a && b) ≡ true → a ≡ true
both_first true b e = refl
both_first false b e = absurd (cc)

no_error : (s h f t : Bool) → (not s && (t && (h && not f))) ≡ true → (not s && (h && not f)) ≡ true
no_error s h f true e = e
no_error true h f false e = absurd (cc)
no_error false h f false e = absurd (cc)

-- the player behind a turn
abbrev turned_player : Bool → Bool → PlayerState → PlayerState
turned_player a b p = (cond a (seek_turn p) (cond b (end_turn p) (no_turn p))).state

-- what is told of the end of playback, behind the end of the step
abbrev has_told_end : SourceView → PlayerState → Bool
has_told_end v p = p.finished && has_ended (scene_at p.position v) p

turn_fewer_by : (a b : Bool) (v : SourceView) (p : PlayerState) → is_seek_done p ≡ a → is_end_due (scene_at p.position v) p ≡ b → (a || b) ≡ true
    → turns_left (turned_player a b p).seeking (has_told_end v (turned_player a b p)) < turns_left p.seeking p.finished
turn_fewer_by true b v p s e d = seek_fewer p.seeking p.finished (has_told_end v (turned_player true b p)) (both_first p.seeking (has_current_data p.level) s)
turn_fewer_by false true v p s e d =
    let due = no_error p.seeking (has_ended (scene_at p.position v) p) p.finished (p.error == 0) e in
    end_fewer p.seeking p.finished (has_ended (scene_at p.position v) p) due
turn_fewer_by false false v p s e d = absurd (cc)

abbrev pub turned : State → State
turned st = step (core_of st) [] (after_own_turn (scene_in st) st.element)

due_fewer : (st : State) → is_turn_due st ≡ true → IsFewerTurns st (turned st)
due_fewer st d =
    let v : SourceView = core_view (core_of st) in
    let p : PlayerState = st.element.player in
    record { work = refl; turns = turn_fewer_by (is_seek_done p) (is_end_due (scene_at p.position v) p) v p refl refl d }

by_due : (b : Bool) (st new : State) → is_turn_due st ≡ b → cond b (Some (turned st)) None ≡ Some new → IsFewerTurns st new
by_due true st new d e =
    let same : turned st ≡ new = cc in
    subst (λ (x : State). IsFewerTurns st x) same (due_fewer st d)
by_due false st new d e = absurd (cc)

pub turn-fewer : (st new : State) → after_element_turn st ≡ Some new → IsFewerTurns st new
turn-fewer st new e = by_due (is_turn_due st) st new refl e

-- ---- firing

first_gone : (q : List Event) (event : Event) → slice_get q 0 ≡ Some event → length (drop 1 q) + 1 ≡ length q
first_gone [] event e = absurd (cc)
first_gone (x ∷ xs) event e = omega arith

by_event : (o : Option Event) (st : State) (fired : AnswerAndState Event State) → slice_get st.element.queue 0 ≡ o
    → option_map (λ event. record { answer = event; state = without_first st }) o ≡ Some fired → IsOneEventLess st fired.state
by_event None st fired at e = absurd (cc)
by_event (Some event) st fired at e =
    let same : without_first st ≡ fired.state = ap (λ (o : Option (AnswerAndState Event State)). state_in o) e in
    subst (λ (x : State). IsOneEventLess st x) same (record { work = refl; turns = refl; events = first_gone st.element.queue event at })
  where
    state_in : Option (AnswerAndState Event State) → State
    state_in None = st
    state_in (Some a) = a.state

pub fire-leaves : (st : State) (fired : AnswerAndState Event State) → fire_result st ≡ Some fired → IsOneEventLess st fired.state
fire-leaves st fired e = by_event (slice_get st.element.queue 0) st fired refl e
