-- One step of the running work of a source buffer.
use Rattle.std.specs.Prelude.{ℕ, ℤ, false, [], ◌∷◌, Option, Some, None}
use Rattle.mse_base.specs.declared.ticks.Moment.{Moment}
use Rattle.mse_base.specs.declared.track.Presentation.{Presentation}
use Rattle.mse_calls.specs.declared.events.EventKind.TheVariants.{Update, UpdateEnd}
use Rattle.mse_calls.specs.declared.views.FaultView.{FaultView}
use Rattle.parser_loop.specs.Items.{InitItem, FrameItem, SegmentEnd, FaultItem}
use Rattle.byte_stream.specs.Readings.{ByteItem}
use Rattle.track_buffers.specs.declared.effects.SourceEffect.{SourceEffect}
use Rattle.track_buffers.specs.Media.{no_effect}
use Rattle.track_buffers.specs.Media as media
use Rattle.track_buffers.specs.Initialized.{init_result}
use Rattle.track_buffers.specs.Frames.{frame_result, media_after_reset, media_after_removal}
use Rattle.buffer_state.specs.declared.faults.Fault.{Fault}
use Rattle.buffer_state.specs.declared.faults.Fault.TheVariants.{Bytes, Media}
use Rattle.buffer_state.specs.declared.running.Running.{Running}
use Rattle.buffer_state.specs.declared.running.Running.TheVariants.{Nothing, Append, Removal}
use Rattle.buffer_state.specs.State.{Feed, Content, Surroundings, idle_feed, feed_after, new_feed, next_item}
use Rattle.buffer_state.specs.Faults.{fault_view}
use Rattle.buffer_state.specs.Replies.{CallResult, effect_reply, event_reply, error_reply, result_with}

-- What an item does: all of it, or it breaks the byte stream, with the place of the fault in the string. What came at
-- the source before the fault stands.
pub data ItemResult : Type 0 where
  Done : Content → SourceEffect → ItemResult
  AppendError : Fault → ℕ → Content → SourceEffect → ItemResult

-- What an item at a place of the string does to the content, by what it does to the media, where it leaves this
-- presentation. One that is refused was not taken, so that it leaves the presentation from before.
abbrev pub media_item_result : media.MediaResult → ℕ → Option Presentation → Content → ItemResult
media_item_result (media.Done m e) at latest c = Done (record { media = m; latest = latest }) e
media_item_result (media.AppendError fault m e) at latest c =
    AppendError (Media fault) at (record { media = m; latest = c.latest }) e

-- What an item does to the content, where the duration is d (Media Source Extensions, 3.5.1, segment parser loop, steps
-- 5.2 and 6.2). It sees neither the string, nor the count, nor what runs.
abbrev pub item_result : ByteItem → Content → Moment → ItemResult
item_result (InitItem p at) c d = media_item_result (init_result p c.media d) at (Some p) c
item_result (FrameItem f at) c d = media_item_result (frame_result f c.media d) at c.latest c
item_result SegmentEnd c d = Done c (no_effect d)
item_result (FaultItem f at) c d = AppendError (Bytes f) at c (no_effect d)

-- reset parser state behind a fault, of whose string nothing follows, so that no frame is ready (3.5.2)
abbrev pub content_after_error : Content → Content
content_after_error c = record { media = media_after_reset c.media; latest = c.latest }

-- the append error (3.5.3): the parser is reset, and the append has ended
abbrev pub append_error_result : FaultView → SourceEffect → Feed → Content → CallResult
append_error_result fault e f c =
    result_with (error_reply fault e)
    (new_feed f.reading.container c.latest) (content_after_error c)

-- the end of work (3.5.5, buffer append, and 3.5.6, range removal, last steps)
abbrev pub last_turn_result : Surroundings → Feed → Content → CallResult
last_turn_result a f c =
    result_with (event_reply false a.duration (Update ∷ UpdateEnd ∷ [])) (idle_feed f) c

abbrev pub item_turn_result : ByteItem → ItemResult → Surroundings → Feed → CallResult
item_turn_result item (Done c e) a f =
    result_with (effect_reply false e []) (feed_after (Some item) f) c
item_turn_result item (AppendError fault at c e) a f =
    append_error_result (fault_view fault a.number at) e f c

-- one step of an append (Media Source Extensions, 3.5.5, buffer append): the next item, or the end where there is none
abbrev pub append_turn_result : Option ByteItem → Surroundings → Feed → Content → CallResult
append_turn_result None a f c = last_turn_result a f c
append_turn_result (Some item) a f c = item_turn_result item (item_result item c a.duration) a f

-- a removal, in one step (Media Source Extensions, 3.5.6, range removal, steps 6 to 9)
abbrev pub removal_turn_result : ℤ → Moment → Surroundings → Feed → Content → CallResult
removal_turn_result start end a f c =
    last_turn_result a f
    (record { media = media_after_removal start end a.duration c.media; latest = c.latest })

abbrev pub turn_result_by_work : Running → Surroundings → Feed → Content → Option CallResult
turn_result_by_work Nothing a f c = None
turn_result_by_work Append a f c = Some (append_turn_result (next_item f) a f c)
turn_result_by_work (Removal start end) a f c = Some (removal_turn_result start end a f c)

-- one step of what runs, or none where nothing runs
abbrev pub turn_result : Surroundings → Feed → Content → Option CallResult
turn_result a f c = turn_result_by_work f.running a f c
