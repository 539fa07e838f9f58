-- Each call on a buffer, and each step of its work, replies a duration that is not before the one that there was.
use Rattle.std.proofs.Common.{◌≡◌, ◌∙◌, ℕ, zero, suc, ℤ, Bool, true, false, cond, ◌&&◌, List, [], ◌∷◌, map, refl, ap, subst}
use Rattle.std.specs.Prelude.{Option, Some, None, length, slice_get, slice_set, not}
use Rattle.std.specs.List.{AllByRecursion}
use Rattle.mse_base.specs.declared.ticks.Moment.{Moment}
use Rattle.mse_base.specs.declared.ticks.Moment.TheVariants.{Nan, At, Infinite}
use Rattle.mse_base.specs.Moments.{is_nan}
use Rattle.mse_calls.specs.declared.answers.Name.{Name}
use Rattle.mse_calls.specs.declared.answers.Name.TheVariants.{InvalidState, NotSupported, TypeError}
use Rattle.mse_calls.specs.declared.calls.Mode.{Mode}
use Rattle.mse_base.specs.declared.track.Presentation.{Presentation}
use Rattle.mse_types.specs.declared.answer.TypeAnswer.{TypeAnswer}
use Rattle.mse_types.specs.declared.answer.TypeAnswer.TheVariants.{Supported, Empty, Unsupported}
use Rattle.parser_loop.specs.Items.{InitItem, FrameItem, SegmentEnd, FaultItem}
use Rattle.byte_stream.specs.Readings.{ByteItem}
use Rattle.track_store.specs.State.{TrackState}
use Rattle.range_removal.specs.Removal.{track_after_removal, tracks_after_removal}
use Rattle.eviction.specs.Evicting.{RemovalRange, ranges_in_order, removal_ranges, sync_times, frames_of, lead_of, tracks_while_full, tracks_after_eviction, has_room}
use Rattle.track_buffers.specs.Media.{Media, MediaResult}
use Rattle.track_buffers.specs.Media as media
use Rattle.track_buffers.specs.Settings.{with_mode, with_offset}
use Rattle.track_buffers.specs.Initialized.{init_result}
use Rattle.track_buffers.specs.Frames.{FlushResult, frame_result, flush_result, unset_track, media_after_eviction}
use Rattle.buffer_state.specs.declared.running.Running.{Running}
use Rattle.buffer_state.specs.declared.running.Running.TheVariants.{Nothing, Append, Removal}
use Rattle.buffer_state.specs.State.{Feed, Content, Surroundings, is_updating, phase_in, ready_in, next_item}
use Rattle.mse_calls.specs.Ready.{is_ended}
use Rattle.buffer_state.specs.Replies.{CallResult, refused_result}
use Rattle.buffer_state.specs.AllCalls.{CallView, SetMode, SetOffset, SetWindowStart, SetWindowEnd, Remove, Abort, ChangeType, result_at, result_of_call}
use Rattle.buffer_state.specs.AllCalls as calls
use Rattle.buffer_state.specs.Calls.{unless_refused, is_sequence, is_in_media, settings_result, settings_result_by_phase, mode_result, offset_result, window_start_refusal, window_start_result, window_end_refusal, window_end_result, remove_refusal, remove_result, is_full, append_refusal, append_result, append_result_after_eviction, abort_refusal, abort_result, abort_result_after_flush, change_type_result_by_answer, change_type_result_after_flush}
use Rattle.buffer_state.specs.Turns.{ItemResult, Done, AppendError, media_item_result, item_result, item_turn_result, append_turn_result, turn_result_by_work, turn_result}
use Rattle.source_buffers.specs.State.{BufferState, BufferStates, media_of, media_of_all}
use Rattle.source_buffers.specs.Slots.{SlotResult, BuffersResult, call_in_slot, result_by_slot, result_on_buffer, removal_in_slot, removal_result, slot_turn_of, buffers_turn_of, turn_by_slot, buffers_turn}
use Rattle.mse_engine.specs.Positions.{HasNoTracks, AreUntracked}
use Rattle.mse_engine.proofs.RaisedDurations.{IsRaised, raised_same, nan_before, IsTimely, IsUntracked, timely_still, IsTimelyResult, IsTimelyEffect, frame_timely, flush_timely, HasTimeIn, items_timed, init_timely}

-- ---- calls on one buffer

-- the reply and the media behind it
abbrev pub IsTimelyCall : Moment → CallResult → Type 0
IsTimelyCall d r = IsTimely d r.reply.duration r.reply.received_init r.content.media.tracks

-- a call on a buffer, whatever the buffer
abbrev pub AreTimely : Surroundings → (Surroundings → Feed → Content → CallResult) → Type 0
AreTimely a call = (f : Feed) (c : Content) → IsUntracked a.duration c.media → IsTimelyCall a.duration (call a f c)

call_by : (d : Moment) (b : Bool) (x y : CallResult) → IsTimelyCall d x → IsTimelyCall d y → IsTimelyCall d (cond b x y)
call_by d true x y h k = h
call_by d false x y h k = k

unless : (o : Option Name) (done : CallResult) (a : Surroundings) (f : Feed) (c : Content) → IsUntracked a.duration c.media → IsTimelyCall a.duration done → IsTimelyCall a.duration (unless_refused o done a f c)
unless (Some name) done a f c h k = timely_still a.duration c.media.tracks h
unless None done a f c h k = k

by_phase : (m : Media) (a : Surroundings) (f : Feed) (c : Content) → IsUntracked a.duration c.media → IsUntracked a.duration m → IsTimelyCall a.duration (settings_result_by_phase m a f c)
by_phase m a f c h k =
    call_by a.duration (is_in_media (phase_in f)) (refused_result InvalidState (is_ended a.ready) a f c) (settings_result (is_ended a.ready) m a f c)
    (timely_still a.duration c.media.tracks h) (timely_still a.duration m.tracks k)

-- what is refused first leaves all as it was
refused_or : (b : Bool) (n : Name) (r : CallResult) (a : Surroundings) (f : Feed) (c : Content) → IsUntracked a.duration c.media → IsTimelyCall a.duration r → IsTimelyCall a.duration (cond b (refused_result n false a f c) r)
refused_or b n r a f c h k = call_by a.duration b (refused_result n false a f c) r (timely_still a.duration c.media.tracks h) k

mode_timely : (mode : Mode) (a : Surroundings) → AreTimely a (mode_result mode)
mode_timely mode a f c h = refused_or (is_updating f.running) InvalidState _ a f c h (refused_or (c.media.settings.generate && not (is_sequence mode)) TypeError _ a f c h (by_phase (with_mode (is_sequence mode) c.media) a f c h h))

offset_timely : (t : ℤ) (a : Surroundings) → AreTimely a (offset_result t)
offset_timely t a f c h = refused_or (is_updating f.running) InvalidState _ a f c h (by_phase (with_offset t c.media) a f c h h)

window_start_timely : (t : ℤ) (a : Surroundings) → AreTimely a (window_start_result t)
window_start_timely t a f c h = unless (window_start_refusal t f c) _ a f c h (timely_still a.duration c.media.tracks h)

window_end_timely : (t : Moment) (a : Surroundings) → AreTimely a (window_end_result t)
window_end_timely t a f c h = unless (window_end_refusal t f c) _ a f c h (timely_still a.duration c.media.tracks h)

remove_timely : (start : ℤ) (end : Moment) (a : Surroundings) → AreTimely a (remove_result start end)
remove_timely start end a f c h = unless (remove_refusal start end a f) _ a f c h (timely_still a.duration c.media.tracks h)

-- ---- an append

by_tracks : (b : Bool) (ts us : List TrackState) → ts ≡ [] → us ≡ [] → cond b ts us ≡ []
by_tracks true ts us h k = h
by_tracks false ts us h k = k

none_while_full : (new quota : ℕ) (d : Moment) (rs : List RemovalRange) → tracks_while_full new quota d rs [] ≡ []
none_while_full new quota d [] = refl
none_while_full new quota d (r ∷ rs) = by_tracks (has_room new quota []) [] (tracks_while_full new quota d rs []) refl (none_while_full new quota d rs)

none_evicted : (position : ℤ) (new quota : ℕ) (d : Moment) → tracks_after_eviction position new quota d [] ≡ []
none_evicted position new quota d =
    let rs : List RemovalRange = ranges_in_order position (removal_ranges d (sync_times (frames_of (lead_of [])))) in
    by_tracks _ [] (tracks_while_full new quota d rs []) refl (none_while_full new quota d rs)

append_timely : (bytes : List ℕ) (position : ℤ) (quota : ℕ) (a : Surroundings) → AreTimely a (append_result (record { bytes = bytes; position = position; quota = quota }))
append_timely bytes position quota a f c h =
    let n : ℕ = length bytes in
    let m : Media = media_after_eviction position n quota a.duration c.media in
    let none : IsUntracked a.duration m = λ e. ap (tracks_after_eviction position n quota a.duration) (h e) ∙ none_evicted position n quota a.duration in
    unless (append_refusal a f) (append_result_after_eviction (record { bytes = bytes; position = position; quota = quota }) a f c) a f c h
    (call_by a.duration (is_full bytes quota f m) _ _ (timely_still a.duration m.tracks none) (timely_still a.duration m.tracks none))

-- ---- resets of the parser

reset : (d e : Moment) (b : Bool) (ts : List TrackState) → IsTimely d e b ts → IsTimely d e b (map unset_track ts)
reset d e b ts h = record { raised = h.raised; received = h.received; untracked = λ n. ap (map unset_track) (h.untracked n) }

abort_timely : (a : Surroundings) → AreTimely a abort_result
abort_timely a f c h =
    let done : FlushResult = flush_result (ready_in f) c.media a.duration in
    unless (abort_refusal a f) (abort_result_after_flush done a f c) a f c h
    (reset a.duration done.effect.duration done.effect.received_init done.media.tracks (flush_timely (ready_in f) c.media a.duration h))

change_by : (answer : TypeAnswer) (a : Surroundings) (f : Feed) (c : Content) → IsUntracked a.duration c.media → IsTimelyCall a.duration (change_type_result_by_answer answer a f c)
change_by Empty a f c h = timely_still a.duration c.media.tracks h
change_by Unsupported a f c h =
    call_by a.duration (is_updating f.running) (refused_result InvalidState false a f c) (refused_result NotSupported false a f c)
    (timely_still a.duration c.media.tracks h) (timely_still a.duration c.media.tracks h)
change_by (Supported container) a f c h =
    let done : FlushResult = flush_result (ready_in f) c.media a.duration in
    call_by a.duration (is_updating f.running) (refused_result InvalidState false a f c) (change_type_result_after_flush container done a)
    (timely_still a.duration c.media.tracks h)
    (reset a.duration done.effect.duration done.effect.received_init done.media.tracks (flush_timely (ready_in f) c.media a.duration h))

-- ---- all calls

at_time : (t : Moment) (call : ℤ → CallResult) (a : Surroundings) (f : Feed) (c : Content) → IsUntracked a.duration c.media → ((u : ℤ) → IsTimelyCall a.duration (call u)) → IsTimelyCall a.duration (result_at t call a f c)
at_time Nan call a f c h k = timely_still a.duration c.media.tracks h
at_time (At u) call a f c h k = k u
at_time Infinite call a f c h k = timely_still a.duration c.media.tracks h

call_timely : (call : CallView) (a : Surroundings) → AreTimely a (result_of_call call)
call_timely (SetMode mode) a f c h = mode_timely mode a f c h
call_timely (SetOffset t) a f c h = at_time t (λ u. offset_result u a f c) a f c h (λ u. offset_timely u a f c h)
call_timely (SetWindowStart t) a f c h = at_time t (λ u. window_start_result u a f c) a f c h (λ u. window_start_timely u a f c h)
call_timely (SetWindowEnd t) a f c h = window_end_timely t a f c h
call_timely (Remove start end) a f c h = at_time start (λ u. remove_result u end a f c) a f c h (λ u. remove_timely u end a f c h)
call_timely (calls.Append None) a f c h = timely_still a.duration c.media.tracks h
call_timely (calls.Append (Some input)) a f c h = append_timely input.bytes input.position input.quota a f c h
call_timely Abort a f c h = abort_timely a f c h
call_timely (ChangeType answer) a f c h = change_by answer a f c h

-- ---- a step of work

abbrev IsTimelyItem : Moment → ItemResult → Type 0
IsTimelyItem d (Done c e) = IsTimelyEffect d e c.media
IsTimelyItem d (AppendError fault at c e) = IsTimelyEffect d e c.media

by_media : (d : Moment) (r : MediaResult) (at : ℕ) (latest : Option Presentation) (c : Content) → IsTimelyResult d r → IsTimelyItem d (media_item_result r at latest c)
by_media d (media.Done m e) at latest c h = h
by_media d (media.AppendError fault m e) at latest c h = h

item_timely : (x : ByteItem) (c : Content) (d : Moment) → HasTimeIn (Some x) → IsUntracked d c.media → IsTimelyItem d (item_result x c d)
item_timely (InitItem p at) c d t h = by_media d (init_result p c.media d) at (Some p) c (init_timely p c.media d t)
item_timely (FrameItem f at) c d t h = by_media d (frame_result f c.media d) at c.latest c (frame_timely f c.media d h)
item_timely SegmentEnd c d t h = timely_still d c.media.tracks h
item_timely (FaultItem f at) c d t h = timely_still d c.media.tracks h

by_item : (x : ByteItem) (t : ItemResult) (a : Surroundings) (f : Feed) → IsTimelyItem a.duration t → IsTimelyCall a.duration (item_turn_result x t a f)
by_item x (Done c e) a f h = h
by_item x (AppendError fault at c e) a f h = reset a.duration e.duration e.received_init c.media.tracks h

by_append : (o : Option ByteItem) (a : Surroundings) (f : Feed) (c : Content) → HasTimeIn o → IsUntracked a.duration c.media → IsTimelyCall a.duration (append_turn_result o a f c)
by_append None a f c t h = timely_still a.duration c.media.tracks h
by_append (Some x) a f c t h = by_item x (item_result x c a.duration) a f (item_timely x c a.duration t h)

abbrev IfTimely : Moment → Option CallResult → Type 0
IfTimely d None = Unit {0}
IfTimely d (Some r) = IsTimelyCall d r

by_work : (r : Running) (a : Surroundings) (f : Feed) (c : Content) → IsUntracked a.duration c.media → IfTimely a.duration (turn_result_by_work r a f c)
by_work Nothing a f c h = tt
by_work Append a f c h = by_append (next_item f) a f c (items_timed (next_item f) f.reading refl) h
by_work (Removal start end) a f c h =
    timely_still a.duration (tracks_after_removal start end a.duration c.media.tracks) (λ n. ap (map (track_after_removal start end a.duration)) (h n))

-- ---- in all slots

record IsTimelySlot (d : Moment) (r : SlotResult) : Type 0 where
  raised : IsRaised d r.reply.duration
  received : r.reply.received_init ≡ true → is_nan r.reply.duration ≡ false
  untracked : is_nan r.reply.duration ≡ true → HasNoTracks (media_of r.slot)

pub record AreTimelyBuffers (d : Moment) (r : BuffersResult) : Type 0 where
  pub raised : IsRaised d r.reply.duration
  pub received : r.reply.received_init ≡ true → is_nan r.reply.duration ≡ false
  pub untracked : AreUntracked r.reply.duration r.buffers

slot_at : (bs : BufferStates) (k : ℕ) (s : Option BufferState) → AllByRecursion HasNoTracks (media_of_all bs) → slice_get bs k ≡ Some s → HasNoTracks (media_of s)
slot_at [] k s h e = absurd (cc)
slot_at (x ∷ bs) zero s h e = let same : x ≡ s = cc in subst (λ (y : Option BufferState). HasNoTracks (media_of y)) same h.0
slot_at (x ∷ bs) (suc k) s h e = slot_at bs k s h.1 e

slot_set : (bs : BufferStates) (k : ℕ) (s : Option BufferState) → AllByRecursion HasNoTracks (media_of_all bs) → HasNoTracks (media_of s) → AllByRecursion HasNoTracks (media_of_all (slice_set bs k s))
slot_set [] k s h e = tt
slot_set (x ∷ bs) zero s h e = (e, h.1)
slot_set (x ∷ bs) (suc k) s h e = (h.0, slot_set bs k s h.1 e)

set_timely : (d : Moment) (k : ℕ) (bs : BufferStates) (r : SlotResult) → AreUntracked d bs → IsTimelySlot d r → AreTimelyBuffers d (record { reply = r.reply; buffers = slice_set bs k r.slot })
set_timely d k bs r h t = record {
  raised = t.raised;
  received = t.received;
  untracked = λ n. slot_set bs k r.slot (h (nan_before d r.reply.duration t.raised n)) (t.untracked n);
}

by_slot : (o : Option (Option BufferState)) (k : ℕ) (d : Moment) (call : Option BufferState → SlotResult) (bs : BufferStates) → slice_get bs k ≡ o
    → ((s : Option BufferState) → (is_nan d ≡ true → HasNoTracks (media_of s)) → IsTimelySlot d (call s)) → AreUntracked d bs → AreTimelyBuffers d (result_by_slot o call d k bs)
by_slot None k d call bs at f h = record { raised = raised_same d; received = λ e. absurd (cc); untracked = h }
by_slot (Some s) k d call bs at f h = set_timely d k bs (call s) h (f s (λ n. slot_at bs k s (h n) at))

in_slot_timely : (call : CallView) (a : Surroundings) (s : Option BufferState)
    → (is_nan a.duration ≡ true → HasNoTracks (media_of s)) → IsTimelySlot a.duration (call_in_slot call a s)
in_slot_timely call a None h = record { raised = raised_same a.duration; received = λ e. absurd (cc); untracked = λ n. tt }
in_slot_timely call a (Some b) h = let t = call_timely call a b.feed b.content h in record { raised = t.raised; received = t.received; untracked = t.untracked }

-- a call on the buffer of a number
pub call-timely : (k : ℕ) (a : Surroundings) (call : CallView) (bs : BufferStates) → AreUntracked a.duration bs → AreTimelyBuffers a.duration (result_on_buffer k call a bs)
call-timely k a call bs h = by_slot (slice_get bs k) k a.duration (call_in_slot call a) bs refl (λ s n. in_slot_timely call a s n) h

removal_timely : (a : Surroundings) (s : Option BufferState) → IsTimelySlot a.duration (removal_in_slot a s)
removal_timely a None = record { raised = raised_same a.duration; received = λ e. absurd (cc); untracked = λ n. tt }
removal_timely a (Some b) = record { raised = raised_same a.duration; received = λ e. absurd (cc); untracked = λ n. tt }

-- a buffer is removed, by which the duration stays
pub removal-timely : (k : ℕ) (a : Surroundings) (bs : BufferStates) → AreUntracked a.duration bs → AreUntracked a.duration (removal_result k a bs).buffers
removal-timely k a bs h = removed_by (slice_get bs k) refl
  where
    removed_by : (o : Option (Option BufferState)) → slice_get bs k ≡ o → AreUntracked a.duration (result_by_slot o (removal_in_slot a) a.duration k bs).buffers
    removed_by None e = h
    removed_by (Some None) e = λ n. slot_set bs k None (h n) tt
    removed_by (Some (Some b)) e = λ n. slot_set bs k None (h n) tt

turn_by : (o : Option CallResult) (k : ℕ) (d : Moment) (bs : BufferStates) (new : BuffersResult) → IfTimely d o → AreUntracked d bs → buffers_turn_of k bs (slot_turn_of o) ≡ Some new → AreTimelyBuffers d new
turn_by None k d bs new t h e = absurd (cc)
turn_by (Some r) k d bs new t h e =
    let slot : SlotResult = record { reply = r.reply; slot = Some (record { feed = r.feed; content = r.content }) } in
    let same : record { reply = r.reply; buffers = slice_set bs k slot.slot } ≡ new = cc in
    subst (λ (x : BuffersResult). AreTimelyBuffers d x) same (set_timely d k bs slot h (record { raised = t.raised; received = t.received; untracked = t.untracked }))

turn_at : (o : Option (Option BufferState)) (k : ℕ) (a : Surroundings) (bs : BufferStates) (new : BuffersResult) → slice_get bs k ≡ o → AreUntracked a.duration bs → turn_by_slot o k a bs ≡ Some new → AreTimelyBuffers a.duration new
turn_at None k a bs new at h e = absurd (cc)
turn_at (Some None) k a bs new at h e = absurd (cc)
turn_at (Some (Some b)) k a bs new at h e =
    turn_by (turn_result a b.feed b.content) k a.duration bs new (by_work b.feed.running a b.feed b.content (λ n. slot_at bs k (Some b) (h n) at)) h e

-- a step of the work of the buffer of a number
pub turn-timely : (k : ℕ) (a : Surroundings) (bs : BufferStates) (new : BuffersResult) → AreUntracked a.duration bs → buffers_turn k a bs ≡ Some new → AreTimelyBuffers a.duration new
turn-timely k a bs new h e = turn_at (slice_get bs k) k a bs new refl h e
