-- Each call and each step keeps the numbers of the track buffers, or takes those of an initialization segment.
use Rattle.std.proofs.Common.{◌≡◌, ◌∙◌, ℕ, ℤ, Bool, true, false, not, ◌&&◌, cond, List, [], ◌∷◌, length, refl, sym, ap, subst}
use Rattle.std.specs.Prelude.{Option, Some, None, IfSome}
use Rattle.mse_base.specs.declared.frame.CodedFrame.{CodedFrame}
use Rattle.mse_base.specs.declared.ticks.Moment.{Moment}
use Rattle.mse_base.specs.declared.ticks.Moment.TheVariants.{Nan, At, Infinite}
use Rattle.mse_base.specs.declared.track.Presentation.{Presentation}
use Rattle.mse_base.specs.Presentation.{HasDistinctIds}
use Rattle.mse_types.specs.declared.answer.Container.{Container}
use Rattle.mse_types.specs.declared.answer.Container.TheVariants.{Mp4, Adts}
use Rattle.mse_types.specs.declared.answer.TypeAnswer.{TypeAnswer}
use Rattle.mse_types.specs.declared.answer.TypeAnswer.TheVariants.{Supported, Empty, Unsupported}
use Rattle.mse_calls.specs.declared.answers.Name.{Name}
use Rattle.mse_calls.specs.declared.answers.Name.TheVariants.{InvalidState, NotSupported, QuotaExceeded, TypeError}
use Rattle.mse_calls.specs.declared.events.EventKind.TheVariants.{UpdateStart}
use Rattle.mse_calls.specs.Ready.{is_ended}
use Rattle.parser_loop.specs.Items.{InitItem, FrameItem, SegmentEnd, FaultItem}
use Rattle.bmff_init.specs.declared.form.Form.TheVariants.{Fragmented}
use Rattle.bmff_init.proofs.PresentationLaws.{presentation-is}
use Rattle.segment_walk.specs.Segments.{box_at}
use Rattle.byte_stream.specs.Readings.{ByteItem, IsInitIn}
use Rattle.byte_stream.proofs.Placed.{init-place}
use Rattle.track_store.specs.State.{TrackState}
use Rattle.track_buffers.specs.declared.effects.MediaFault.{MediaFault}
use Rattle.track_buffers.specs.declared.effects.SourceEffect.{SourceEffect}
use Rattle.track_buffers.specs.Media.{Media, MediaResult}
use Rattle.track_buffers.specs.Media as media
use Rattle.track_buffers.specs.Initialized.{init_result, init_result_of, init_fault, segment_effect}
use Rattle.track_buffers.specs.Frames.{track_ids, frame_result, flush_result, media_after_eviction}
use Rattle.track_buffers.specs.Numbers.{AreApart, HasBuffers}
use Rattle.track_buffers.specs.Settings.{new_media, with_mode, with_offset, with_window_start, with_window_end}
use Rattle.track_buffers.proofs.SameNumbers.{HaveSameIds, media_behind, ids_unset, ids_removed, ids_evicted, ids_framed, ids_flushed}
use Rattle.track_buffers.proofs.InitTracks.{buffers_found, buffers_kept, numbers_apart}
use Rattle.buffer_state.specs.declared.running.Running.{Running}
use Rattle.buffer_state.specs.declared.running.Running.TheVariants.{Nothing, Append, Removal}
use Rattle.buffer_state.specs.State.{Feed, Content, Surroundings, AppendInput, is_updating, phase_in, ready_in, next_item, new_feed, feed_running, feed_with, idle_feed}
use Rattle.buffer_state.specs.Replies.{CallResult, refused_result, result_with, event_reply}
use Rattle.buffer_state.specs.Turns.{media_item_result, item_turn_result, append_turn_result, removal_turn_result, turn_result, turn_result_by_work}
use Rattle.buffer_state.specs.Calls.{is_in_media, is_sequence, has_generated_timestamps, with_media, unless_refused, settings_result, settings_result_by_phase, window_start_refusal, window_end_refusal, remove_refusal, append_refusal, window_start_result, remove_result, append_result_after_eviction, abort_refusal, abort_result_after_flush, change_type_result_after_flush, is_full, offset_result, end_work_result}
use Rattle.buffer_state.specs.AllCalls.{CallView, SetMode, SetOffset, SetWindowStart, SetWindowEnd, Remove, Append as AppendCall, Abort, ChangeType, result_at, result_of_call}
use Rattle.buffer_state.specs.Finding.{IsOfContainer, HasBuffersForFrames, HasBuffersBehind}

-- ---- so what is kept stays

buffers_stay : (o : Option Presentation) (ts us : List TrackState) → HaveSameIds ts us → IfSome o (λ p. HasBuffers p ts) → IfSome o (λ p. HasBuffers p us)
buffers_stay None ts us same h = tt
buffers_stay (Some p) ts us same h = buffers_kept p ts us same h

stays : (f g : Feed) (c d : Content) → g.reading.container ≡ f.reading.container → d.latest ≡ c.latest → HaveSameIds c.media.tracks d.media.tracks → HasBuffersForFrames f c → HasBuffersForFrames g d
stays f g c d container latest same h = record {
  buffers = subst (λ (o : Option Presentation). IfSome o (λ p. HasBuffers p d.media.tracks)) (sym latest) (buffers_stay c.latest c.media.tracks d.media.tracks same h.buffers);
  apart = subst AreApart (sym same) h.apart;
  of_container = subst (λ (o : Option Presentation). IfSome o (IsOfContainer g.reading.container)) (sym latest) (subst (λ (x : Container). IfSome c.latest (IsOfContainer x)) (sym container) h.of_container);
}

-- where no presentation is left
forgotten : (f : Feed) (c : Content) (container : Container) (m : Media) → HaveSameIds c.media.tracks m.tracks → HasBuffersForFrames f c → HasBuffersForFrames (new_feed container None) (record { media = m; latest = None })
forgotten f c container m same h = record { buffers = tt; apart = subst AreApart (sym same) h.apart; of_container = tt }

pub made : (gap : ℤ) (container : Container) → HasBuffersForFrames (new_feed container None) (record { media = new_media gap (has_generated_timestamps container); latest = None })
made gap container = record { buffers = tt; apart = tt; of_container = tt }

-- ---- behind the calls

pick : (b : Bool) (x y : CallResult) → HasBuffersBehind x → HasBuffersBehind y → HasBuffersBehind (cond b x y)
pick true x y h k = h
pick false x y h k = k

unless : (o : Option Name) (done : CallResult) (a : Surroundings) (f : Feed) (c : Content) → HasBuffersForFrames f c → HasBuffersBehind done → HasBuffersBehind (unless_refused o done a f c)
unless None done a f c h k = k
unless (Some name) done a f c h k = h

by_phase : (m : Media) (a : Surroundings) (f : Feed) (c : Content) → HaveSameIds c.media.tracks m.tracks → HasBuffersForFrames f c → HasBuffersBehind (settings_result_by_phase m a f c)
by_phase m a f c same h =
    pick (is_in_media (phase_in f)) (refused_result InvalidState (is_ended a.ready) a f c) (settings_result (is_ended a.ready) m a f c) h (stays f f c (with_media m c) refl refl same h)

at_time : (t : Moment) (call : ℤ → CallResult) (a : Surroundings) (f : Feed) (c : Content) → HasBuffersForFrames f c → ((x : ℤ) → HasBuffersBehind (call x)) → HasBuffersBehind (result_at t call a f c)
at_time Nan call a f c h k = h
at_time (At t) call a f c h k = k t
at_time Infinite call a f c h k = h

offset_keeps : (t : ℤ) (a : Surroundings) (f : Feed) (c : Content) → HasBuffersForFrames f c → HasBuffersBehind (offset_result t a f c)
offset_keeps t a f c h =
    pick (is_updating f.running) (refused_result InvalidState false a f c) (settings_result_by_phase (with_offset t c.media) a f c) h (by_phase (with_offset t c.media) a f c refl h)

append_keeps : (input : AppendInput) (a : Surroundings) (f : Feed) (c : Content) → HasBuffersForFrames f c → HasBuffersBehind (append_result_after_eviction input a f c)
append_keeps input a f c h =
    let m = media_after_eviction input.position (length input.bytes) input.quota a.duration c.media in
    let d = with_media m c in
    let left = stays f f c d refl refl (ids_evicted input.position (length input.bytes) input.quota a.duration c.media.tracks) h in
    pick (is_full input.bytes input.quota f m) (refused_result QuotaExceeded (is_ended a.ready) a f d) (result_with (event_reply (is_ended a.ready) a.duration (UpdateStart ∷ [])) (feed_with input.bytes f) d) left
    (stays f (feed_with input.bytes f) d d refl refl refl left)

type_keeps : (container : Container) (a : Surroundings) (f : Feed) (c : Content) → HasBuffersForFrames f c → HasBuffersBehind (change_type_result_after_flush container (flush_result (ready_in f) c.media a.duration) a)
type_keeps container a f c h =
    let n = (flush_result (ready_in f) c.media a.duration).media in
    forgotten f c container _ (ids_unset n.tracks ∙ ids_flushed (ready_in f) c.media a.duration) h

type_by_answer : (answer : TypeAnswer) (a : Surroundings) (f : Feed) (c : Content) → HasBuffersForFrames f c → HasBuffersBehind (result_of_call (ChangeType answer) a f c)
type_by_answer Empty a f c h = h
type_by_answer Unsupported a f c h = pick (is_updating f.running) (refused_result InvalidState false a f c) (refused_result NotSupported false a f c) h h
type_by_answer (Supported container) a f c h = pick (is_updating f.running) (refused_result InvalidState false a f c) (change_type_result_after_flush container (flush_result (ready_in f) c.media a.duration) a) h (type_keeps container a f c h)

pub call_keeps : (call : CallView) (a : Surroundings) (f : Feed) (c : Content) → HasBuffersForFrames f c → HasBuffersBehind (result_of_call call a f c)
call_keeps (SetMode mode) a f c h =
    let done = settings_result_by_phase (with_mode (is_sequence mode) c.media) a f c in
    let refused = refused_result TypeError false a f c in
    let generates = c.media.settings.generate && not (is_sequence mode) in
    pick (is_updating f.running) (refused_result InvalidState false a f c) (cond generates refused done) h (pick generates refused done h (by_phase (with_mode (is_sequence mode) c.media) a f c refl h))
call_keeps (SetOffset t) a f c h = at_time t (λ x. offset_result x a f c) a f c h (λ x. offset_keeps x a f c h)
call_keeps (SetWindowStart t) a f c h =
    at_time t (λ x. window_start_result x a f c) a f c h (λ x. unless (window_start_refusal x f c) (settings_result false (with_window_start x c.media) a f c) a f c h (stays f f c (with_media (with_window_start x c.media) c) refl refl refl h))
call_keeps (SetWindowEnd t) a f c h =
    unless (window_end_refusal t f c) (settings_result false (with_window_end t c.media) a f c) a f c h (stays f f c (with_media (with_window_end t c.media) c) refl refl refl h)
call_keeps (Remove start end) a f c h =
    at_time start (λ x. remove_result x end a f c) a f c h
    (λ x. unless (remove_refusal x end a f) (result_with (event_reply (is_ended a.ready) a.duration (UpdateStart ∷ [])) (feed_running (Removal x end) f) c) a f c h (stays f (feed_running (Removal x end) f) c c refl refl refl h))
call_keeps (AppendCall None) a f c h = h
call_keeps (AppendCall (Some input)) a f c h = unless (append_refusal a f) (append_result_after_eviction input a f c) a f c h (append_keeps input a f c h)
call_keeps Abort a f c h =
    unless (abort_refusal a f) (abort_result_after_flush (flush_result (ready_in f) c.media a.duration) a f c) a f c h
    (stays f (new_feed f.reading.container c.latest) c _ refl refl (ids_unset (flush_result (ready_in f) c.media a.duration).media.tracks ∙ ids_flushed (ready_in f) c.media a.duration) h)
call_keeps (ChangeType answer) a f c h = type_by_answer answer a f c h

pub end_keeps : (a : Surroundings) (f : Feed) (c : Content) → HasBuffersForFrames f c → HasBuffersBehind (end_work_result a f c)
end_keeps a f c h = stays f (idle_feed f) c c refl refl refl h

-- ---- behind a step

-- a presentation that comes next is one of the container, and no two of its tracks have one number
record IsRead (container : Container) (p : Presentation) : Type 0 where
  distinct : HasDistinctIds p.tracks
  of_container : IsOfContainer container p

read_in : (container : Container) (whole : List ℕ) (at : ℕ) (p : Presentation) → IsInitIn container whole at p → IsRead container p
read_in Mp4 whole at p h = record { distinct = (presentation-is Fragmented (box_at whole at) p h).distinct; of_container = tt }
read_in Adts whole at p h = record {
  distinct = subst (λ (q : Presentation). HasDistinctIds q.tracks) (sym h.is) (tt, tt);
  of_container = (h.header.rate, h.is);
}

read_next : (f : Feed) (p : Presentation) (at : ℕ) → next_item f ≡ Some (InitItem p at) → IsRead f.reading.container p
read_next f p at e =
    let r = f.reading.string in
    read_in f.reading.container r.whole at p (init-place f.reading.container r.before r.whole r.taken at p e)

init_keeps : (r : MediaResult) (p : Presentation) (at : ℕ) (a : Surroundings) (f : Feed) (c : Content) → init_result p c.media a.duration ≡ r → IsRead f.reading.container p → HasBuffersForFrames f c → HasBuffersBehind (item_turn_result (InitItem p at) (media_item_result r at (Some p) c) a f)
init_keeps (media.Done m e) p at a f c is read h = record {
  buffers = buffers_found p c.media m a.duration e read.distinct h.apart is;
  apart = numbers_apart p c.media m a.duration e read.distinct h.apart is;
  of_container = read.of_container;
}
init_keeps (media.AppendError fault m e) p at a f c is read h =
    stays f (new_feed f.reading.container c.latest) c _ refl refl (ids_unset m.tracks ∙ init_left (init_fault p c.media) p c.media m fault e (segment_effect p a.duration) is) h
  where
    init_left : (o : Option MediaFault) (p : Presentation) (m n : Media) (fault : MediaFault) (e b : SourceEffect) → init_result_of o p m b ≡ media.AppendError fault n e → HaveSameIds m.tracks n.tracks
    init_left None p m n fault e b is = absurd cc
    init_left (Some x) p m n fault e b is = let same : m ≡ n = cc in ap (λ (x : Media). track_ids x.tracks) (sym same)

frame_keeps : (r : MediaResult) (x : CodedFrame) (at : ℕ) (a : Surroundings) (f : Feed) (c : Content) → HaveSameIds c.media.tracks (media_behind r).tracks → HasBuffersForFrames f c → HasBuffersBehind (item_turn_result (FrameItem x at) (media_item_result r at c.latest c) a f)
frame_keeps (media.Done m e) x at a f c same h = stays f _ c _ refl refl same h
frame_keeps (media.AppendError fault m e) x at a f c same h = stays f (new_feed f.reading.container c.latest) c _ refl refl (ids_unset m.tracks ∙ same) h

item_keeps : (o : Option ByteItem) (a : Surroundings) (f : Feed) (c : Content) → next_item f ≡ o → HasBuffersForFrames f c → HasBuffersBehind (append_turn_result o a f c)
item_keeps None a f c is h = stays f (idle_feed f) c c refl refl refl h
item_keeps (Some (InitItem p at)) a f c is h = init_keeps (init_result p c.media a.duration) p at a f c refl (read_next f p at is) h
item_keeps (Some (FrameItem x at)) a f c is h = frame_keeps (frame_result x c.media a.duration) x at a f c (ids_framed x c.media a.duration) h
item_keeps (Some SegmentEnd) a f c is h = stays f _ c c refl refl refl h
item_keeps (Some (FaultItem x at)) a f c is h = stays f (new_feed f.reading.container c.latest) c _ refl refl (ids_unset c.media.tracks) h

work_keeps : (w : Running) (a : Surroundings) (f : Feed) (c : Content) (r : CallResult) → HasBuffersForFrames f c → turn_result_by_work w a f c ≡ Some r → HasBuffersBehind r
work_keeps Nothing a f c r h e = absurd cc
work_keeps Append a f c r h e = let is : append_turn_result (next_item f) a f c ≡ r = cc in subst HasBuffersBehind is (item_keeps (next_item f) a f c refl h)
work_keeps (Removal start end) a f c r h e =
    let is : removal_turn_result start end a f c ≡ r = cc in
    subst HasBuffersBehind is (stays f (idle_feed f) c _ refl refl (ids_removed start end a.duration c.media.tracks) h)

pub turn_keeps : (a : Surroundings) (f : Feed) (c : Content) (r : CallResult) → HasBuffersForFrames f c → turn_result a f c ≡ Some r → HasBuffersBehind r
turn_keeps a f c r h e = work_keeps f.running a f c r h e
