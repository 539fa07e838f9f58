-- A play that does not meet the quota: its core is that of its lines.
use Rattle.std.proofs.Common.{◌≡◌, ℕ, zero, suc, ◌+◌, ◌==◌, ℤ, pos, Bool, true, false, not, ◌||◌, List, [], ◌∷◌, ◌++◌, length, refl, ap, sym, subst, ◌∙◌, arith}
use Rattle.std.specs.Prelude.{Option, Some, None, IfSome, slice_get, slice_set, option_map, if◌then◌else◌, nat_le, nat_lt, ◌^◌}
use Rattle.std.proofs.lemmas.Bool.Decides.{nat_tests}
use Rattle.std.specs.Option.{option_flatten}
use Rattle.mse_calls.specs.declared.events.EventKind.TheVariants.{UpdateStart}
use Rattle.mse_base.specs.declared.ticks.Moment.{Moment}
use Rattle.mse_calls.specs.AnswerAndState.{AnswerAndState}
use Rattle.mse_calls.specs.Pieces.{bytes_of}
use Rattle.mse_calls.specs.declared.answers.Name.TheVariants.{InvalidState, QuotaExceeded}
use Rattle.mse_calls.specs.declared.calls.Call.{Call}
use Rattle.mse_calls.specs.declared.calls.Call.TheVariants as call
use Rattle.mse_calls.specs.declared.events.Event.{Event}
use Rattle.mse_calls.specs.declared.entry.Entry.{Entry}
use Rattle.mse_calls.specs.declared.entry.Entry.TheVariants.{Step, Script, Listener, Fired, Work, Element}
use Rattle.track_store.specs.Kept.{bytes_in}
use Rattle.track_buffers.specs.Media.{Media}
use Rattle.track_buffers.specs.Frames.{media_after_eviction, used_in}
use Rattle.buffer_state.specs.State.{Feed, Surroundings, is_updating, feed_with}
use Rattle.mse_calls.specs.Ready.{is_ended}
use Rattle.buffer_state.specs.Replies.{event_reply, refused_result, result_with}
use Rattle.buffer_state.specs.AllCalls.{Append, input_at}
use Rattle.buffer_state.specs.Calls.{is_full, unless_refused, append_result_by_room, append_result_after_eviction, with_media}
use Rattle.source_buffers.specs.State.{BufferState, in_slot}
use Rattle.source_buffers.specs.Slots.{result_by_slot, call_in_slot}
use Rattle.call_script.specs.declared.script.StepLine.{StepLine}
use Rattle.call_script.specs.declared.script.StepLine.TheVariants as step
use Rattle.mse_engine.specs.State.{CoreSource, Core, State, core_of}
use Rattle.mse_engine.specs.Scenes.{scene_in}
use Rattle.mse_engine.specs.Signals.{step as step_of}
use Rattle.media_element.specs.Queueing as queueing
use Rattle.mse_engine.specs.Replies.{surroundings_in}
use Rattle.mse_engine.specs.CoreEffects.{CoreEffect}
use Rattle.mse_engine.specs.BufferCalls.{buffer_effect, call_effect}
use Rattle.mse_engine.specs.Calls.{core_effect}
use Rattle.mse_engine.specs.Work.{work_effect, work_result, after_element_turn, without_first, fire_result, is_turn_due}
use Rattle.mse_engine.specs.Run.{step_meaning, fire_meaning, after_entries, fire_entries, entries_if}
use Rattle.mse_engine.proofs.Cores.{call-core, own_turn-core}
use Rattle.cut_law.specs.Plays.{after_entry, line_entries, after_line, play_entries, play_of}
use Rattle.cut_law.specs.Room.{HasRoomFor, HasRoomForCall, HasRoomForEntry, HasRoomForLine, IsUnmet}
use Rattle.cut_law.proofs.Halves.{half_with, half_after_append}
use Rattle.cut_law.proofs.Halves.{half_after_append_by as free_by}
use Rattle.cut_law.proofs.Drains.{core_with_slot, slot_of_half, on_slot, append_core, core_by, work_core, drain_core}
use Rattle.cut_law.proofs.DrainEnds.{after-append, turned-core, meaning-core, drain-core}

-- ---- calls

abbrev pub append_some : Option (List ℕ) → ℕ → Core → Core
append_some None k c = c
append_some (Some bytes) k c = append_core bytes k c

-- what a call makes of the core where no buffer is full: the position is not looked at
abbrev pub free_call : List (List ℕ) → Call → Core → Core
free_call blobs (call.AppendBuffer k piece) c = append_some (bytes_of blobs piece) k c
free_call blobs other c = (core_effect blobs (pos 0) other c).core

not-full : (a b : Bool) → (a || b) ≡ false → a ≡ false
not-full true b e = absurd (cc)
not-full false b e = refl

below : (a b : ℕ) → nat_le a b ≡ false → nat_lt b a ≡ true
below a b e = grind (arith, nat_tests)

pick : {X : Type 0} (t : Bool) (x y : X) → t ≡ true → (if t then x else y) ≡ x
pick true x y e = refl
pick false x y e = absurd (cc)

evicts-none : (bytes : List ℕ) (position : ℤ) (quota : ℕ) (d : Moment) (f : Feed) (m : Media) → is_full bytes quota f m ≡ false → media_after_eviction position (length bytes) quota d m ≡ m
evicts-none bytes position quota d f m e =
    let less : nat_lt (bytes_in m.tracks) quota ≡ true = below quota (bytes_in m.tracks) (not-full (nat_le quota (used_in m)) (nat_le (2 ^ 62) (length f.reading.string.whole + length bytes)) e) in
    ap (λ ts. record m { tracks = ts }) (pick (nat_lt (bytes_in m.tracks) quota) m.tracks _ less)

append-free : (t : Bool) (bytes : List ℕ) (position : ℤ) (k : ℕ) (b : BufferState) (s : CoreSource) → is_full bytes s.quota b.feed b.content.media ≡ false
    → half_with k (unless_refused (if t then Some InvalidState else None) (append_result_after_eviction (record { bytes = bytes; position = position; quota = s.quota }) (surroundings_in k s) b.feed b.content) (surroundings_in k s) b.feed b.content) s
    ≡ free_by t bytes k (record { buffer = b; source = s })
append-free true bytes position k b s e = refl
append-free false bytes position k b s e =
    let a : Surroundings = surroundings_in k s in
    ap (λ m. half_with k (append_result_by_room bytes s.quota a b.feed (with_media m b.content)) s) (evicts-none bytes position s.quota s.state.duration b.feed b.content.media e)
    ∙ ap (λ t. half_with k (if t then refused_result QuotaExceeded (is_ended a.ready) a b.feed b.content else result_with (event_reply (is_ended a.ready) a.duration (UpdateStart ∷ [])) (feed_with bytes b.feed) b.content) s) e

pub set-same : {X : Type 0} (xs : List X) (k : ℕ) (x : X) → slice_get xs k ≡ Some x → slice_set xs k x ≡ xs
set-same [] k x e = refl
set-same (y ∷ ys) zero x e = let same : y ≡ x = cc in ap (λ z. z ∷ ys) (sym same)
set-same (y ∷ ys) (suc k) x e = ap (λ zs. y ∷ zs) (set-same ys k x e)

found-free : (x : Option (Option BufferState)) (bytes : List ℕ) (position : ℤ) (k : ℕ) (c : Core) → slice_get c.buffers k ≡ x → HasRoomFor (Some bytes) c.source.quota (option_flatten x)
    → (call_effect k (Append (Some (record { bytes = bytes; position = position; quota = c.source.quota }))) (result_by_slot x (call_in_slot (Append (Some (record { bytes = bytes; position = position; quota = c.source.quota }))) (surroundings_in k c.source)) c.source.state.duration k c.buffers) c).core
    ≡ on_slot x k (half_after_append bytes) c
found-free None bytes position k c e room = refl
found-free (Some None) bytes position k c e room = ap (λ bs. record { source = c.source; buffers = bs }) (set-same c.buffers k None e)
found-free (Some (Some b)) bytes position k c e room =
    ap (λ h. core_with_slot k c.buffers (slot_of_half h)) (append-free (is_updating b.feed.running || not (c.source.error == 0)) bytes position k b c.source room)

-- there are no such bytes
found-none : (x : Option (Option BufferState)) (k : ℕ) (c : Core) → slice_get c.buffers k ≡ x
    → (call_effect k (Append None) (result_by_slot x (call_in_slot (Append None) (surroundings_in k c.source)) c.source.state.duration k c.buffers) c).core ≡ c
found-none None k c e = refl
found-none (Some None) k c e = ap (λ bs. record { source = c.source; buffers = bs }) (set-same c.buffers k None e)
found-none (Some (Some b)) k c e = ap (λ bs. record { source = c.source; buffers = bs }) (set-same c.buffers k (Some b) e)

append-effect : (x : Option (List ℕ)) (position : ℤ) (k : ℕ) (c : Core) → HasRoomFor x c.source.quota (in_slot k c.buffers)
    → (buffer_effect k (Append (input_at position c.source.quota x)) c).core ≡ append_some x k c
append-effect None position k c room = found-none (slice_get c.buffers k) k c refl
append-effect (Some bytes) position k c room = found-free (slice_get c.buffers k) bytes position k c refl room

pub call-free : (blobs : List (List ℕ)) (position : ℤ) (made : Call) (c : Core) → HasRoomForCall blobs c made → (core_effect blobs position made c).core ≡ free_call blobs made c
call-free blobs position call.Attach c room = refl
call-free blobs position (call.AddSourceBuffer text) c room = refl
call-free blobs position (call.RemoveSourceBuffer k) c room = refl
call-free blobs position (call.SetDuration d) c room = refl
call-free blobs position (call.EndOfStream end) c room = refl
call-free blobs position (call.SetLiveSeekableRange start end) c room = refl
call-free blobs position call.ClearLiveSeekableRange c room = refl
call-free blobs position (call.SetMode k mode) c room = refl
call-free blobs position (call.SetTimestampOffset k t) c room = refl
call-free blobs position (call.SetAppendWindowStart k t) c room = refl
call-free blobs position (call.SetAppendWindowEnd k t) c room = refl
call-free blobs position (call.AppendBuffer k piece) c room = append-effect (bytes_of blobs piece) position k c room
call-free blobs position (call.Abort k) c room = refl
call-free blobs position (call.Remove k start end) c room = refl
call-free blobs position (call.ChangeType k text) c room = refl
call-free blobs position (call.Buffered k) c room = refl
call-free blobs position call.SourceState c room = refl
call-free blobs position (call.Seek t) c room = refl
call-free blobs position call.Play c room = refl
call-free blobs position call.Pause c room = refl
call-free blobs position (call.Advance t) c room = refl
call-free blobs position call.ElementBuffered c room = refl
call-free blobs position call.Seekable c room = refl

-- ---- lines

-- what a line makes of the core
abbrev pub core_line : List (List ℕ) → StepLine → Core → Core
core_line blobs (step.Call made) c = free_call blobs made c
core_line blobs step.Fire c = c
core_line blobs (step.Work k) c = work_core k c
core_line blobs step.Element c = c
core_line blobs step.Drain c = drain_core c

fire-core : (fired : Option (AnswerAndState Event State)) (blobs : List (List ℕ)) (st : State) → fire_result st ≡ fired → IfSome fired (λ a. core_of a.state ≡ core_of st)
    → core_of (after_entries blobs st (fire_entries fired)) ≡ core_of st
fire-core None blobs st e h = refl
fire-core (Some a) blobs st e h = ap (λ fired. core_of (fire_meaning fired a.answer st).state) e ∙ h

-- an event that is fired leaves the core
pub fired-core : (st : State) → IfSome (fire_result st) (λ a. core_of a.state ≡ core_of st)
fired-core st = fired-by (slice_get st.element.queue 0) st
  where
    fired-by : (x : Option Event) (st : State) → IfSome {T = AnswerAndState Event State} (option_map (λ event. record { answer = event; state = without_first st }) x) (λ a. core_of a.state ≡ core_of st)
    fired-by None st = tt
    fired-by (Some event) st = refl

work-core : (o : Option CoreEffect) (blobs : List (List ℕ)) (st : State) (k : ℕ) → work_effect k (core_of st) ≡ o
    → core_of (after_entries blobs st (entries_if (work_result o st) (Work k))) ≡ core_by o (core_of st)
work-core None blobs st k e = refl
work-core (Some m) blobs st k e = meaning-core k st ∙ ap (λ o. core_by o (core_of st)) e

turn-core : (o : Option State) (blobs : List (List ℕ)) (st : State) → after_element_turn st ≡ o → core_of (step_meaning o st).state ≡ core_of st
    → core_of (after_entries blobs st (entries_if o Element)) ≡ core_of st
turn-core None blobs st e h = refl
turn-core (Some new) blobs st e h = ap (λ o. (core_of (step_meaning o st).state)) e ∙ h

pub line-core : (blobs : List (List ℕ)) (st : State) (line : StepLine) → HasRoomForLine blobs (core_of st) line → core_of (after_line blobs st line) ≡ core_line blobs line (core_of st)
line-core blobs st (step.Call made) room = call-core blobs made st ∙ call-free blobs st.element.player.position made (core_of st) room
line-core blobs st step.Fire room = fire-core (fire_result st) blobs st refl (fired-core st)
line-core blobs st (step.Work k) room = work-core (work_effect k (core_of st)) blobs st k refl
line-core blobs st step.Element room = turn-core (after_element_turn st) blobs st refl (turned-core st)
line-core blobs st step.Drain room = drain-core blobs st

fired-entry : (o : Option (AnswerAndState Event State)) (event : Event) (st : State) → IfSome o (λ a. core_of a.state ≡ core_of st) → core_of (fire_meaning o event st).state ≡ core_of st
fired-entry None event st h = refl
fired-entry (Some a) event st h = h

-- what an entry makes of the core
abbrev pub core_entry : List (List ℕ) → Entry → Core → Core
core_entry blobs (Step n) c = c
core_entry blobs (Script made answer) c = free_call blobs made c
core_entry blobs (Listener w made answer) c = free_call blobs made c
core_entry blobs (Fired event) c = c
core_entry blobs (Work k) c = work_core k c
core_entry blobs Element c = c

-- ---- scripts

abbrev pub core_play : List (List ℕ) → Core → List StepLine → Core
core_play blobs c [] = c
core_play blobs c (line ∷ lines) = core_play blobs (core_line blobs line c) lines

pub play-append : (blobs : List (List ℕ)) (c : Core) (xs ys : List StepLine) → core_play blobs c (xs ++ ys) ≡ core_play blobs (core_play blobs c xs) ys
play-append blobs c [] ys = refl
play-append blobs c (x ∷ xs) ys = play-append blobs (core_line blobs x c) xs ys

-- the state behind the lines, one after another
abbrev pub after_lines : List (List ℕ) → State → List StepLine → State
after_lines blobs st [] = st
after_lines blobs st (line ∷ lines) = after_lines blobs (after_line blobs st line) lines

pub play-lines : (blobs : List (List ℕ)) (n : ℕ) (st : State) (lines : List StepLine) → after_entries blobs st (play_entries blobs n st lines) ≡ after_lines blobs st lines
play-lines blobs n st [] = refl
play-lines blobs n st (line ∷ lines) =
    after-append blobs st (line_entries blobs st line) (play_entries blobs (suc n) (after_line blobs st line) lines)
    ∙ play-lines blobs (suc n) (after_line blobs st line) lines

lines-core : (blobs : List (List ℕ)) (st : State) (lines : List StepLine) → IsUnmet blobs st lines → core_of (after_lines blobs st lines) ≡ core_play blobs (core_of st) lines
lines-core blobs st [] u = refl
lines-core blobs st (line ∷ lines) u =
    lines-core blobs (after_line blobs st line) lines u.1 ∙ ap (λ c. core_play blobs c lines) (line-core blobs st line u.0)

-- the core that a play comes to
pub play-core : (blobs : List (List ℕ)) (st : State) (lines : List StepLine) → IsUnmet blobs st lines → core_of (play_of blobs st lines) ≡ core_play blobs (core_of st) lines
play-core blobs st lines u = ap (λ (s : State). core_of s) (play-lines blobs 0 st lines) ∙ lines-core blobs st lines u

-- the first lines of some that do not meet the quota do not meet it
pub unmet-front : (blobs : List (List ℕ)) (st : State) (front more : List StepLine) → IsUnmet blobs st (front ++ more) → IsUnmet blobs st front
unmet-front blobs st [] more u = tt
unmet-front blobs st (line ∷ front) more u = (u.0, unmet-front blobs (after_line blobs st line) front more u.1)

-- ---- the core behind a step follows from the core before it

entry-core : (blobs : List (List ℕ)) (st : State) (entry : Entry) → HasRoomForEntry blobs (core_of st) entry → core_of (after_entry blobs st entry) ≡ core_entry blobs entry (core_of st)
entry-core blobs st (Step n) room = refl
entry-core blobs st (Script made answer) room = call-core blobs made st ∙ call-free blobs st.element.player.position made (core_of st) room
entry-core blobs st (Listener w made answer) room = call-core blobs made st ∙ call-free blobs st.element.player.position made (core_of st) room
entry-core blobs st (Fired event) room = fired-entry (fire_result st) event st (fired-core st)
entry-core blobs st (Work k) room = meaning-core k st
entry-core blobs st Element room = turned-core st

pub same-entry : (blobs : List (List ℕ)) (a b : State) (entry : Entry) → core_of a ≡ core_of b → HasRoomForEntry blobs (core_of a) entry → core_of (after_entry blobs a entry) ≡ core_of (after_entry blobs b entry)
same-entry blobs a b entry e room =
    entry-core blobs a entry room ∙ ap (λ c. core_entry blobs entry c) e ∙ sym (entry-core blobs b entry (subst (λ c. HasRoomForEntry blobs c entry) e room))

pub same-line : (blobs : List (List ℕ)) (a b : State) (line : StepLine) → core_of a ≡ core_of b → HasRoomForLine blobs (core_of a) line → core_of (after_line blobs a line) ≡ core_of (after_line blobs b line)
same-line blobs a b line e room =
    line-core blobs a line room ∙ ap (λ c. core_line blobs line c) e ∙ sym (line-core blobs b line (subst (λ c. HasRoomForLine blobs c line) e room))

-- a turn of the element leaves the core
pub turn-leaves : (st : State) → IfSome (after_element_turn st) (λ new. core_of new ≡ core_of st)
turn-leaves st = by-due (is_turn_due st) (step_of (core_of st) [] (queueing.after_own_turn (scene_in st) st.element)) st (own_turn-core st)
  where
    by-due : (t : Bool) (new st : State) → core_of new ≡ core_of st → IfSome (if t then Some new else None) (λ new. core_of new ≡ core_of st)
    by-due true new st e = e
    by-due false new st e = tt
