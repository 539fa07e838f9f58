-- A device of the proof, which no public clause needs: what the code does in one step of an append, in parts.
use Rattle.std.specs.Prelude.{◌≡◌, ℕ, ◌≤◌, true, false, [], length, Option, Some, None}
use Rattle.mse_base.specs.declared.frame.CodedFrame.{CodedFrame}
use Rattle.mse_base.specs.declared.ticks.Moment.{Moment}
use Rattle.mse_base.specs.declared.track.Presentation.{Presentation}
use Rattle.parser_loop.specs.Items.{InitItem, FrameItem, SegmentEnd, FaultItem}
use Rattle.byte_stream.specs.Readings.{ByteItem}
use Rattle.byte_stream.specs.Streams.{StreamView}
use Rattle.track_buffers.specs.Media.{Media, MediaView, is_awaiting_first}
use Rattle.track_buffers.specs.Initialized.{media_tracks, init_fault}
use Rattle.track_buffers.specs.declared.effects.MediaEffect.{MediaEffect}
use Rattle.track_buffers.specs.declared.effects.MediaEffect.TheVariants as effects
use Rattle.buffer_state.specs.declared.running.Running.{Running}
use Rattle.buffer_state.specs.declared.running.Running.TheVariants.{Nothing}
use Rattle.buffer_state.specs.declared.turns.ItemEffect.{ItemEffect}
use Rattle.buffer_state.specs.declared.turns.ItemEffect.TheVariants as step
use Rattle.buffer_state.specs.State.{Feed, Content, Surroundings}
use Rattle.buffer_state.specs.Faults.{fault_view}
use Rattle.buffer_state.specs.Replies.{CallResult, effect_reply, result_with}
use Rattle.buffer_state.specs.Turns.{ItemResult, Done, AppendError, item_result, append_error_result, last_turn_result}

-- the media is ready for the item: an initialization segment is not refused, and there is room for what it stores
abbrev pub IsReadyFor : Option ByteItem → MediaView → Type 0
IsReadyFor None m = Unit {0}
IsReadyFor (Some (InitItem p at)) m =
    (init_fault p m.media ≡ None)
    × (is_awaiting_first m.media ≡ true → length (media_tracks p) ≤ m.places)
IsReadyFor (Some (FrameItem f at)) m = 1 ≤ m.room
IsReadyFor (Some SegmentEnd) m = Unit {0}
IsReadyFor (Some (FaultItem f at)) m = Unit {0}

-- the item is no initialization segment
abbrev pub IsNoInit : Option ByteItem → Type 0
IsNoInit None = Unit {0}
IsNoInit (Some (InitItem p at)) = ⊥
IsNoInit (Some (FrameItem f at)) = Unit {0}
IsNoInit (Some SegmentEnd) = Unit {0}
IsNoInit (Some (FaultItem f at)) = Unit {0}

-- what the next item did, or that there was none
pub data StepResult : Type 0 where
  Ended : Content → StepResult
  Took : ItemResult → StepResult

abbrev pub step_result : ItemEffect → Content → StepResult
step_result step.NoItem c = Ended c
step_result (step.Done b) c = Took (Done c b)
step_result (step.AppendError fault at b) c = Took (AppendError fault at c b)

abbrev pub step_of_item : Option ByteItem → Content → Moment → StepResult
step_of_item None c d = Ended c
step_of_item (Some item) c d = Took (item_result item c d)

-- the content behind an item that did this to the media; one that is refused leaves the presentation from before
abbrev pub content_at : Media → Option Presentation → Content → MediaEffect → Content
content_at m latest c (effects.Done e) = record { media = m; latest = latest }
content_at m latest c (effects.AppendError fault e) = record { media = m; latest = c.latest }

-- the item is refused, and this is what comes of it: it leaves the media and the presentation
abbrev pub IsItemRefused : ItemEffect → Option ByteItem → Media → Moment → Type 0
IsItemRefused step.NoItem o m d = ⊥
IsItemRefused (step.Done e) o m d = ⊥
IsItemRefused (step.AppendError fault at e) o m d =
    (latest : Option Presentation)
    → step_of_item o (record { media = m; latest = latest }) d
    ≡ Took (AppendError fault at (record { media = m; latest = latest }) e)

-- the item is refused, or the media is ready for it
abbrev pub IsPrepared : Option ItemEffect → Option ByteItem → MediaView → Moment → Type 0
IsPrepared None o m d = IsReadyFor o m
IsPrepared (Some st) o m d = IsItemRefused st o m.media d

-- the duration after a step
abbrev pub duration_after : ItemEffect → Moment → Moment
duration_after step.NoItem d = d
duration_after (step.Done b) d = b.duration
duration_after (step.AppendError fault at b) d = b.duration

-- how often it changed
abbrev pub changes_after : ItemEffect → ℕ
changes_after step.NoItem = 0
changes_after (step.Done b) = b.duration_changes
changes_after (step.AppendError fault at b) = b.duration_changes

-- what a step answers, where the item was given
abbrev pub step_turn : ItemEffect → Surroundings → Feed → Content → CallResult
step_turn step.NoItem a f c = last_turn_result a f c
step_turn (step.Done b) a f c = result_with (effect_reply false b []) f c
step_turn (step.AppendError fault at b) a f c =
    append_error_result (fault_view fault a.number at) b f c

-- a step that went well leaves the stream and the append; behind another nothing runs
abbrev pub IsLeftByStep : ItemEffect → StreamView → Running → StreamView → Running → Type 0
IsLeftByStep step.NoItem old running new rest = rest ≡ Nothing
IsLeftByStep (step.Done b) old running new rest = (new ≡ old) × (rest ≡ running)
IsLeftByStep (step.AppendError fault at b) old running new rest = rest ≡ Nothing

-- the coded frame of an item, if it is one
abbrev pub frame_in : Option ByteItem → Option CodedFrame
frame_in None = None
frame_in (Some (InitItem p at)) = None
frame_in (Some (FrameItem f at)) = Some f
frame_in (Some SegmentEnd) = None
frame_in (Some (FaultItem f at)) = None
