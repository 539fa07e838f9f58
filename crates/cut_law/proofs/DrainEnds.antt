-- A drain ends, and leaves the core that all the running work leaves.
use Rattle.std.proofs.Common.{◌≡◌, ℕ, zero, suc, ◌+◌, ◌<◌, ◌≤◌, Bool, true, false, List, [], ◌∷◌, ◌++◌, refl, ap, sym, ◌∙◌, arith}
use Rattle.std.specs.Prelude.{Option, Some, None, slice_get, option_map, if◌then◌else◌}
use Rattle.mse_calls.specs.declared.events.Event.{Event}
use Rattle.mse_calls.specs.declared.entry.Entry.{Entry}
use Rattle.mse_calls.specs.declared.entry.Entry.TheVariants.{Work, Element}
use Rattle.buffer_state.specs.declared.running.Running.{Running}
use Rattle.buffer_state.specs.declared.running.Running.TheVariants.{Nothing, Append, Removal}
use Rattle.buffer_state.specs.State.{is_updating}
use Rattle.buffer_state.specs.Turns.{turn_result_by_work}
use Rattle.source_buffers.specs.State.{BufferState, BufferStates}
use Rattle.source_buffers.specs.Slots.{BuffersResult, buffers_turn, slot_turn_of, turn_by_slot, buffers_turn_of}
use Rattle.media_element.specs.Queueing as queueing
use Rattle.mse_engine.specs.State.{State, core_of}
use Rattle.mse_engine.specs.Signals.{step}
use Rattle.mse_engine.specs.Replies.{surroundings_in}
use Rattle.mse_engine.specs.Scenes.{scene_in}
use Rattle.mse_engine.specs.Work.{turn_effect, work_effect, work_result, after_work, after_element_turn, running_in, is_turn_due}
use Rattle.mse_engine.specs.Run.{step_meaning, after_entries}
use Rattle.mse_engine.specs.Progress.{slot_work_left, turns_left_in, work_left, work_left_by, work_left_in, IsFewerTurns, IsLessWork}
use Rattle.mse_engine.proofs.Cores.{turn-core, own_turn-core}
use Rattle.mse_engine.proofs.Progress.{turns-most, work-less, turn-fewer}
use Rattle.cut_law.specs.Plays.{after_entry, fired_entries, next_entry_by, entries_behind, entries_then, drain_in, drain_entries, steps_left, turns_behind}
use Rattle.cut_law.proofs.Drains.{is_running_in, core_by, drain_core, drain-idle, drain-step, lowest, lowest-is, lowest-none-by, stepped}

pub after-append : (blobs : List (List ℕ)) (st : State) (xs ys : List Entry) → after_entries blobs st (xs ++ ys) ≡ after_entries blobs (after_entries blobs st xs) ys
after-append blobs st [] ys = refl
after-append blobs st (x ∷ xs) ys = after-append blobs (after_entry blobs st x) xs ys

-- ---- the events that wait

-- the state with these events that wait
abbrev pub with_queue : List Event → State → State
with_queue queue st = record { source = st.source; buffers = st.buffers; element = record { player = st.element.player; queue = queue } }

pub without-events : (blobs : List (List ℕ)) (st : State) (queue : List Event) → after_entries blobs (with_queue queue st) (fired_entries queue) ≡ with_queue [] st
without-events blobs st [] = refl
without-events blobs st (event ∷ events) = without-events blobs st events

-- ---- a turn of the element leaves the core, and fewer turns

turned-by : (t : Bool) (new st : State) → core_of new ≡ core_of st → core_of (step_meaning (if t then Some new else None) st).state ≡ core_of st
turned-by true new st e = e
turned-by false new st e = refl

pub turned-core : (st : State) → core_of (step_meaning (after_element_turn st) st).state ≡ core_of st
turned-core st = turned-by (is_turn_due st) (step (core_of st) [] (queueing.after_own_turn (scene_in st) st.element)) st (own_turn-core st)

-- a turn that is due finds something to do
pub turned-holds : (t : Bool) (new st : State) → t ≡ true → (step_meaning (if t then Some new else None) st).holds
turned-holds true new st e = tt
turned-holds false new st e = absurd (cc)

pub turn-holds : (st : State) → is_turn_due st ≡ true → (step_meaning (after_element_turn st) st).holds
turn-holds st d = turned-holds (is_turn_due st) (step (core_of st) [] (queueing.after_own_turn (scene_in st) st.element)) st d

-- ---- a drain

meaning-by : (x : Option BuffersResult) (k : ℕ) (st : State)
    → core_of (step_meaning (work_result (option_map (λ result. turn_effect k result (core_of st)) x) st) st).state ≡ core_by (option_map (λ result. turn_effect k result (core_of st)) x) (core_of st)
meaning-by None k st = refl
meaning-by (Some r) k st = turn-core k r st

pub meaning-core : (k : ℕ) (st : State) → core_of (step_meaning (after_work k st) st).state ≡ core_by (work_effect k (core_of st)) (core_of st)
meaning-core k st = meaning-by (buffers_turn k (surroundings_in k (core_of st).source) st.buffers) k st

-- a step of the lowest running work finds something to do
work-holds-by : (r : Running) (k : ℕ) (b : BufferState) (st : State) → is_updating r ≡ true
    → (step_meaning (work_result (option_map (λ result. turn_effect k result (core_of st)) (buffers_turn_of k st.buffers (slot_turn_of (turn_result_by_work r (surroundings_in k (core_of st).source) b.feed b.content)))) st) st).holds
work-holds-by Nothing k b st u = absurd (cc)
work-holds-by Append k b st u = tt
work-holds-by (Removal start end) k b st u = tt

slot-holds : (x : Option (Option BufferState)) (slot : Option BufferState) (k : ℕ) (st : State) → x ≡ Some slot → is_running_in slot ≡ true
    → (step_meaning (work_result (option_map (λ result. turn_effect k result (core_of st)) (turn_by_slot x k (surroundings_in k (core_of st).source) st.buffers)) st) st).holds
slot-holds None slot k st e u = absurd (cc)
slot-holds (Some None) slot k st e u = let same : None ≡ slot = cc in absurd (false-runs (ap is_running_in same ∙ u))
  where
    false-runs : false ≡ true → ⊥
    false-runs e = absurd (cc)
slot-holds (Some (Some b)) slot k st e u =
    let same : Some b ≡ slot = cc in
    work-holds-by b.feed.running k b st (ap is_running_in same ∙ u)

pub work-holds : (st : State) (k : ℕ) → running_in st ≡ Some k → (step_meaning (after_work k st) st).holds
work-holds st k r =
    let zeros : k ≡ 0 + k = omega arith in
    let low : lowest st.buffers ≡ Some k = sym (lowest-is st.buffers) ∙ r in
    let x = stepped 0 k k st.buffers (core_of st).source zeros low in
    slot-holds (slice_get st.buffers k) x.slot k st x.there x.runs

-- where something is done, fewer steps are left behind it
by-step : (o : Option State) (st : State) → (step_meaning o st).holds → o ≡ Some (step_meaning o st).state
by-step None st h = absurd h
by-step (Some new) st h = refl

behind-most : (n turns : ℕ) → turns ≤ 2 → turns_behind n turns ≤ 2
behind-most zero turns m = m
behind-most (suc n) turns m = omega arith

behind-work : (n turns : ℕ) → 0 < n → turns_behind n turns ≡ 2
behind-work zero turns l = absurd (omega (arith, l))
behind-work (suc n) turns l = refl

behind-none : (n turns : ℕ) → n ≡ 0 → turns_behind n turns ≡ turns
behind-none zero turns e = refl
behind-none (suc n) turns e = absurd (omega (arith, e))

fewer-by-work : (st new : State) → IsLessWork st new → steps_left new < steps_left st
fewer-by-work st new less =
    let most : turns_behind (work_left_in new) (turns_left_in new) ≤ 2 = behind-most (work_left_in new) (turns_left_in new) (turns-most new.element.player.seeking new.element.player.finished) in
    let two : turns_behind (work_left_in st) (turns_left_in st) ≡ 2 = behind-work (work_left_in st) (turns_left_in st) (omega (arith, less)) in
    omega (arith, less, most, two)

fewer-by-turn : (st new : State) → work_left_in st ≡ 0 → IsFewerTurns st new → steps_left new < steps_left st
fewer-by-turn st new none less =
    let before : turns_behind (work_left_in st) (turns_left_in st) ≡ turns_left_in st = behind-none (work_left_in st) (turns_left_in st) none in
    let after : turns_behind (work_left_in new) (turns_left_in new) ≡ turns_left_in new = behind-none (work_left_in new) (turns_left_in new) (less.work ∙ none) in
    omega (arith, less.work, less.turns, before, after)

pub work-falls : (blobs : List (List ℕ)) (st : State) (k : ℕ) → running_in st ≡ Some k → steps_left (after_entry blobs st (Work k)) < steps_left st
work-falls blobs st k r =
    let new : State = after_entry blobs st (Work k) in
    fewer-by-work st new (work-less k st new (by-step (after_work k st) st (work-holds st k r)))

-- where nothing runs no work is left
idle-none-left : (r : Running) (b : BufferState) → is_updating r ≡ false → work_left_by r b.feed ≡ 0
idle-none-left Nothing b e = refl
idle-none-left Append b e = absurd (cc)
idle-none-left (Removal start end) b e = absurd (cc)

slot-none-left : (slot : Option BufferState) → is_running_in slot ≡ false → slot_work_left slot ≡ 0
slot-none-left None e = refl
slot-none-left (Some b) e = idle-none-left b.feed.running b e

all-none-left : (bs : BufferStates) → lowest bs ≡ None → work_left bs ≡ 0
all-none-left [] e = refl
all-none-left (b ∷ bs) e =
    let p = lowest-none-by (is_running_in b) (lowest bs) e in
    let first : slot_work_left b ≡ 0 = slot-none-left b p.0 in
    let rest : work_left bs ≡ 0 = all-none-left bs p.1 in
    omega (arith, first, rest)

pub none-left : (st : State) → running_in st ≡ None → work_left_in st ≡ 0
none-left st r = all-none-left st.buffers (sym (lowest-is st.buffers) ∙ r)

pub turn-falls : (blobs : List (List ℕ)) (st : State) → running_in st ≡ None → is_turn_due st ≡ true → steps_left (after_entry blobs st Element) < steps_left st
turn-falls blobs st r d =
    let new : State = after_entry blobs st Element in
    fewer-by-turn st new (none-left st r) (turn-fewer st new (by-step (after_element_turn st) st (turn-holds st d)))

abbrev pub IsCoreDrained : ℕ → List (List ℕ) → State → Type 0
IsCoreDrained n blobs st = core_of (after_entries blobs st (drain_in n blobs st)) ≡ drain_core (core_of st)

then-drains : (low : Option ℕ) (t : Bool) (n : ℕ) (blobs : List (List ℕ)) (st : State) → running_in st ≡ low → is_turn_due st ≡ t → steps_left st < suc n
    → ((new : State) → steps_left new < n → IsCoreDrained n blobs new)
    → core_of (after_entries blobs st (entries_behind (next_entry_by low t) (λ entry. drain_in n blobs (after_entry blobs st entry)))) ≡ drain_core (core_of st)
then-drains (Some k) t n blobs st r d l f =
    let low : lowest st.buffers ≡ Some k = sym (lowest-is st.buffers) ∙ r in
    let new : State = after_entry blobs st (Work k) in
    let less : steps_left new < steps_left st = work-falls blobs st k r in
    let fewer : steps_left new < n = omega (arith, less, l) in
    f new fewer ∙ ap (λ c. drain_core c) (meaning-core k st) ∙ sym (drain-step (core_of st) k low)
then-drains None true n blobs st r d l f =
    let new : State = after_entry blobs st Element in
    let less : steps_left new < steps_left st = turn-falls blobs st r d in
    let fewer : steps_left new < n = omega (arith, less, l) in
    f new fewer ∙ ap (λ c. drain_core c) (turned-core st)
then-drains None false n blobs st r d l f = sym (drain-idle 0 st.buffers (core_of st).source (sym (lowest-is st.buffers) ∙ r))

drains-in : (n : ℕ) (blobs : List (List ℕ)) (st : State) → steps_left st < n → IsCoreDrained n blobs st
drains-in zero blobs st l = absurd (omega arith)
drains-in (suc n) blobs st l =
    let still : State = with_queue [] st in
    ap (λ (s : State). core_of s) (after-append blobs st (fired_entries st.element.queue) (entries_then (drain_in n blobs) blobs (after_entries blobs st (fired_entries st.element.queue))))
    ∙ ap (λ (s : State). core_of (after_entries blobs s (entries_then (drain_in n blobs) blobs s))) (without-events blobs st st.element.queue)
    ∙ then-drains (running_in still) (is_turn_due still) n blobs still refl refl l (λ new fewer. drains-in n blobs new fewer)

-- there are steps enough
pub drain-core : (blobs : List (List ℕ)) (st : State) → core_of (after_entries blobs st (drain_entries blobs st)) ≡ drain_core (core_of st)
unfolding drain_entries
drain-core blobs st = drains-in (suc (steps_left st)) blobs st (omega arith)
