-- The calls on a source buffer (Media Source Extensions, 3.1 and 3.2; changeType of its second edition): of each the
-- refusals in order before anything comes of it, and then what it does.
use Rattle.std.specs.Prelude.{ℕ, ◌+◌, ◌^◌, nat_le, ℤ, pos, int_lt, Bool, true, false, not, ◌&&◌, ◌||◌, List, [], ◌∷◌, length, Option, None, Some, if◌then◌else◌}
use Rattle.mse_base.specs.declared.frame.Phase.{Phase}
use Rattle.mse_base.specs.declared.frame.Phase.TheVariants.{Waiting, InInit, InMedia}
use Rattle.mse_base.specs.declared.ticks.Moment.{Moment}
use Rattle.mse_types.specs.declared.answer.Container.{Container}
use Rattle.mse_types.specs.declared.answer.Container.TheVariants.{Mp4, Adts}
use Rattle.mse_types.specs.declared.answer.TypeAnswer.{TypeAnswer}
use Rattle.mse_types.specs.declared.answer.TypeAnswer.TheVariants.{Supported, Empty, Unsupported}
use Rattle.mse_calls.specs.declared.answers.Name.{Name}
use Rattle.mse_calls.specs.declared.answers.Name.TheVariants.{InvalidState, NotSupported, QuotaExceeded, TypeError}
use Rattle.mse_calls.specs.declared.calls.Mode.{Mode}
use Rattle.mse_calls.specs.declared.calls.Mode.TheVariants.{Segments, Sequence}
use Rattle.mse_calls.specs.declared.events.EventKind.{EventKind}
use Rattle.mse_calls.specs.declared.events.EventKind.TheVariants.{UpdateStart, UpdateEnd, Abort}
use Rattle.mse_calls.specs.declared.views.BufferAttributes.{BufferAttributes}
use Rattle.mse_calls.specs.declared.views.BufferView.{BufferView}
use Rattle.mse_calls.specs.Ready.{is_open, is_ended}
use Rattle.byte_stream.specs.Readings.{held_at}
use Rattle.mse_base.specs.Moments.{is_before, is_after, is_nan}
use Rattle.track_buffers.specs.Media.{Media}
use Rattle.track_buffers.specs.Settings.{with_mode, with_offset, with_window_start, with_window_end, with_whole_window, with_container}
use Rattle.track_buffers.specs.Frames.{FlushResult, flush_result, media_after_reset, media_after_eviction, used_in}
use Rattle.track_buffers.specs.Buffered.{buffered_of}
use Rattle.track_buffers.specs.Views.{track_views_of}
use Rattle.buffer_state.specs.declared.running.Running.TheVariants.{Removal}
use Rattle.buffer_state.specs.State.{Feed, Content, Surroundings, AppendInput, is_updating, is_appending, is_removing, feed_running, idle_feed, feed_with, new_feed, phase_in, ready_in}
use Rattle.buffer_state.specs.Replies.{CallResult, refused_result, result_with, event_reply, effect_reply}

abbrev pub is_in_media : Phase → Bool
is_in_media Waiting = false
is_in_media InInit = false
is_in_media InMedia = true

abbrev pub is_sequence : Mode → Bool
is_sequence Segments = false
is_sequence Sequence = true

-- the byte stream format generates timestamps (byte stream format registry, "generate timestamps flag")
abbrev pub has_generated_timestamps : Container → Bool
has_generated_timestamps Mp4 = false
has_generated_timestamps Adts = true

-- the content with other media
abbrev pub with_media : Media → Content → Content
with_media m c = record { media = m; latest = c.latest }

-- what a call does, unless it is refused by a name before that
abbrev pub unless_refused : Option Name → CallResult → Surroundings → Feed → Content → CallResult
unless_refused (Some name) done a f c = refused_result name false a f c
unless_refused None done a f c = done

-- ---- settings

-- what is done with the media, where nothing else comes of a call
abbrev pub settings_result : Bool → Media → Surroundings → Feed → Content → CallResult
settings_result reopened m a f c =
    result_with (event_reply reopened a.duration []) f (with_media m c)

-- an ended source is opened again; then, in the middle of a media segment, the call is refused
abbrev pub settings_result_by_phase : Media → Surroundings → Feed → Content → CallResult
settings_result_by_phase m a f c =
    if is_in_media (phase_in f) then refused_result InvalidState (is_ended a.ready) a f c
    else settings_result (is_ended a.ready) m a f c

-- mode, on setting
abbrev pub mode_result : Mode → Surroundings → Feed → Content → CallResult
mode_result mode a f c =
    if is_updating f.running then refused_result InvalidState false a f c
    else (if c.media.settings.generate && not (is_sequence mode)
    then refused_result TypeError false a f c
    else settings_result_by_phase (with_mode (is_sequence mode) c.media) a f c)

-- timestampOffset, on setting
abbrev pub offset_result : ℤ → Surroundings → Feed → Content → CallResult
offset_result t a f c =
    if is_updating f.running then refused_result InvalidState false a f c
    else settings_result_by_phase (with_offset t c.media) a f c

-- appendWindowStart, on setting: neither negative nor at or after the end of the window
abbrev pub window_start_refusal : ℤ → Feed → Content → Option Name
window_start_refusal t f c =
    if is_updating f.running then Some InvalidState
    else (if int_lt t (pos 0) || not (is_before t c.media.settings.window_end) then Some TypeError
    else None)

abbrev pub window_start_result : ℤ → Surroundings → Feed → Content → CallResult
window_start_result t a f c =
    unless_refused (window_start_refusal t f c)
    (settings_result false (with_window_start t c.media) a f c) a f c

-- appendWindowEnd, on setting: a number, and after the start of the window
abbrev pub window_end_refusal : Moment → Feed → Content → Option Name
window_end_refusal t f c =
    if is_updating f.running then Some InvalidState
    else (if is_nan t || not (is_before c.media.settings.window_start t) then Some TypeError
    else None)

abbrev pub window_end_result : Moment → Surroundings → Feed → Content → CallResult
window_end_result t a f c =
    unless_refused (window_end_refusal t f c)
    (settings_result false (with_window_end t c.media) a f c) a f c

-- ---- removal

-- remove: it begins within the duration, which is known, and ends after it begins
abbrev pub remove_refusal : ℤ → Moment → Surroundings → Feed → Option Name
remove_refusal start end a f =
    if is_updating f.running then Some InvalidState
    else (if is_nan a.duration then Some TypeError
    else (if int_lt start (pos 0) || is_after start a.duration then Some TypeError
    else (if is_nan end || not (is_before start end) then Some TypeError
    else None)))

abbrev pub remove_result : ℤ → Moment → Surroundings → Feed → Content → CallResult
remove_result start end a f c =
    unless_refused (remove_refusal start end a f)
    (result_with (event_reply (is_ended a.ready) a.duration (UpdateStart ∷ []))
    (feed_running (Removal start end) f) c)
    a f c

-- ---- appends

-- the buffer full flag: the stored frames fill the quota, or the string would not be shorter than 2 ^ 62 bytes
abbrev pub is_full : List ℕ → ℕ → Feed → Media → Bool
is_full bytes quota f m =
    nat_le quota (used_in m) || nat_le (2 ^ 62) (length f.reading.string.whole + length bytes)

abbrev pub append_result_by_room : List ℕ → ℕ → Surroundings → Feed → Content → CallResult
append_result_by_room bytes quota a f c =
    if is_full bytes quota f c.media then refused_result QuotaExceeded (is_ended a.ready) a f c
    else result_with (event_reply (is_ended a.ready) a.duration (UpdateStart ∷ []))
    (feed_with bytes f) c

-- the prepare append algorithm (3.5.4): coded frame eviction comes before the quota is looked at
abbrev pub append_result_after_eviction : AppendInput → Surroundings → Feed → Content → CallResult
append_result_after_eviction input a f c =
    append_result_by_room input.bytes input.quota a f
    (with_media
    (media_after_eviction input.position (length input.bytes) input.quota a.duration c.media) c)

-- appendBuffer: for the quota it is refused behind the eviction alone
abbrev pub append_refusal : Surroundings → Feed → Option Name
append_refusal a f = if is_updating f.running || a.error then Some InvalidState else None

abbrev pub append_result : AppendInput → Surroundings → Feed → Content → CallResult
append_result input a f c =
    unless_refused (append_refusal a f) (append_result_after_eviction input a f c) a f c

-- ---- resets of the parser

-- what is fired where running work is aborted (3.2, abort, step 4; 2.2, removeSourceBuffer, step 2)
abbrev pub abort_events : Bool → List EventKind
abort_events true = Abort ∷ UpdateEnd ∷ []
abort_events false = []

-- abort: the frames that are ready are processed in the append window as it was, and the window is reset last
abbrev pub abort_result_after_flush : FlushResult → Surroundings → Feed → Content → CallResult
abort_result_after_flush done a f c =
    result_with (effect_reply false done.effect (abort_events (is_appending f.running)))
    (new_feed f.reading.container c.latest)
    (with_media (with_whole_window (media_after_reset done.media)) c)

abbrev pub abort_refusal : Surroundings → Feed → Option Name
abort_refusal a f =
    if not (is_open a.ready) then Some InvalidState
    else (if is_removing f.running then Some InvalidState
    else None)

abbrev pub abort_result : Surroundings → Feed → Content → CallResult
abort_result a f c =
    unless_refused (abort_refusal a f)
    (abort_result_after_flush (flush_result (ready_in f) c.media a.duration) a f c) a f c

-- changeType: the parser is reset, the presentation is forgotten, and the next initialization segment may have other
-- codecs
abbrev pub change_type_result_after_flush : Container → FlushResult → Surroundings → CallResult
change_type_result_after_flush container done a =
    result_with (effect_reply (is_ended a.ready) done.effect []) (new_feed container None)
    (record {
      media = with_container (has_generated_timestamps container) (media_after_reset done.media);
      latest = None;
    })

abbrev pub change_type_refusal_by_answer : TypeAnswer → Feed → Option Name
change_type_refusal_by_answer Empty f = Some TypeError
change_type_refusal_by_answer Unsupported f =
    if is_updating f.running then Some InvalidState else Some NotSupported
change_type_refusal_by_answer (Supported container) f =
    if is_updating f.running then Some InvalidState else None

abbrev pub change_type_result_by_answer : TypeAnswer → Surroundings → Feed → Content → CallResult
change_type_result_by_answer Empty a f c = refused_result TypeError false a f c
change_type_result_by_answer Unsupported a f c =
    if is_updating f.running then refused_result InvalidState false a f c
    else refused_result NotSupported false a f c
change_type_result_by_answer (Supported container) a f c =
    if is_updating f.running then refused_result InvalidState false a f c
    else change_type_result_after_flush container (flush_result (ready_in f) c.media a.duration) a

-- ---- the end of running work (2.2, removeSourceBuffer, step 2)

abbrev pub end_work_result : Surroundings → Feed → Content → CallResult
end_work_result a f c =
    result_with (event_reply false a.duration (abort_events (is_updating f.running))) (idle_feed f)
    c

-- ---- what a view shows

abbrev pub buffer_view : ℕ → Bool → Feed → Content → BufferView
buffer_view number ended f c = record {
  number = number;
  phase = phase_in f;
  held = length (held_at f.reading);
  used = used_in c.media;
  ranges = buffered_of ended c.media;
  tracks = track_views_of c.media;
}

-- ---- what a page reads (3.1, attributes of SourceBuffer)

-- mode, which is "sequence" or "segments"
abbrev pub mode_by : Bool → Mode
mode_by true = Sequence
mode_by false = Segments

-- where the source is ended or not, and the buffer is active or not
abbrev pub buffer_attributes : ℕ → Bool → Bool → Feed → Content → BufferAttributes
buffer_attributes number ended active f c = record {
  updating = is_updating f.running;
  active = active;
  mode = mode_by c.media.settings.sequence;
  timestamp_offset = c.media.settings.offset;
  append_window_start = c.media.settings.window_start;
  append_window_end = c.media.settings.window_end;
  view = buffer_view number ended f c;
}
