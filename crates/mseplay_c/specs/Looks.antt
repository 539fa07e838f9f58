-- What a page reads of a session, as the numbers that C is given.
use Rattle.std.specs.Prelude.{◌≡◌, ◌<◌, ◌≤◌, ℕ, ◌+◌, ◌^◌, ℤ, pos, ◌+ℤ◌, ◌*ℤ◌, Bool, true, false, List, [], ◌∷◌, ◌++◌, length, slice_get, Option, Some, None, IfSome, is_some}
use Rattle.std.specs.List.{flat_map}
use Rattle.mse_base.specs.declared.span.Span.{Span}
use Rattle.mse_base.specs.declared.ticks.Moment.{Moment}
use Rattle.mse_base.specs.declared.ticks.Moment.TheVariants as moment
use Rattle.mse_base.specs.declared.track.Kind.{Kind}
use Rattle.mse_base.specs.declared.track.Kind.TheVariants as kind
use Rattle.mse_base.specs.declared.frame.Phase.{Phase}
use Rattle.mse_base.specs.declared.frame.Phase.TheVariants as phase
use Rattle.mse_calls.specs.Level.{level_number}
use Rattle.mse_calls.specs.declared.calls.Mode.{Mode}
use Rattle.mse_calls.specs.declared.calls.Mode.TheVariants as mode
use Rattle.mse_calls.specs.declared.answers.Ready.{Ready}
use Rattle.mse_calls.specs.declared.answers.Ready.TheVariants as ready
use Rattle.mse_calls.specs.declared.views.Attributes.{Attributes}
use Rattle.mse_calls.specs.declared.views.BufferAttributes.{BufferAttributes}
use Rattle.mse_calls.specs.declared.views.FaultView.{FaultView}
use Rattle.mse_calls.specs.declared.views.TrackView.{TrackView}
use Rattle.mseplay_c.specs.declared.look.BufferLook.{BufferLook}
use Rattle.mseplay_c.specs.declared.look.Fault.{Fault}
use Rattle.mseplay_c.specs.declared.look.Look.{Look}
use Rattle.mseplay_c.specs.declared.look.TickNumber.{TickNumber}
use Rattle.mseplay_c.specs.declared.look.TickRange.{TickRange}
use Rattle.mseplay_c.specs.declared.look.Time.{Time}
use Rattle.mseplay_c.specs.declared.look.TrackLook.{TrackLook}

-- ---- times

-- the number that is told by its two halves
abbrev pub ticks_in : TickNumber → ℤ
ticks_in n = pos n.low +ℤ n.high *ℤ pos (2 ^ 64)

abbrev pub span_in : TickRange → Span
span_in range = record { start = ticks_in range.start; end = ticks_in range.end }

-- a kind, and the ticks of a time
abbrev pub moment_numbers : Moment → ℕ × ℤ
moment_numbers moment.Nan = (0, pos 0)
moment_numbers (moment.At ticks) = (1, ticks)
moment_numbers moment.Infinite = (2, pos 0)

abbrev pub time_numbers : Time → ℕ × ℤ
time_numbers time = (time.kind, ticks_in time.ticks)

-- where nothing can be sought the range is 0 to 0
abbrev pub span_or_none : Option Span → Span
span_or_none (Some span) = span
span_or_none None = record { start = pos 0; end = pos 0 }

-- ---- numbers of enumerations

abbrev pub flag : Bool → ℕ
flag true = 1
flag false = 0

-- MediaSource.readyState: closed, open, ended
abbrev pub ready_number : Ready → ℕ
ready_number ready.Closed = 0
ready_number ready.Opened = 1
ready_number ready.Ended = 2

-- SourceBuffer.mode: segments, sequence
abbrev pub mode_number : Mode → ℕ
mode_number mode.Segments = 0
mode_number mode.Sequence = 1

-- append state (Media Source Extensions, 3.5.1): WAITING_FOR_SEGMENT, PARSING_INIT_SEGMENT, PARSING_MEDIA_SEGMENT
abbrev pub phase_number : Phase → ℕ
phase_number phase.Waiting = 0
phase_number phase.InInit = 1
phase_number phase.InMedia = 2

abbrev pub kind_number : Kind → ℕ
kind_number kind.Video = 0
kind_number kind.Audio = 1
kind_number kind.Other = 2

-- the numbers of a fault, all 0 where there is none
abbrev pub fault_numbers : Option FaultView → Fault
fault_numbers (Some fault) = record {
  number = fault.number;
  inner = fault.inner;
  missing = fault.missing;
  buffer = fault.buffer;
  offset = fault.offset;
}
fault_numbers None = record {
  number = 0;
  inner = 0;
  missing = 0 ∷ 0 ∷ 0 ∷ 0 ∷ [];
  buffer = 0;
  offset = 0;
}

-- ---- what a page reads

-- of the source and of the element
pub record IsLookOf (found : Attributes) (look : Look) : Type 0 where
  pub source : look.source ≡ ready_number found.state.source
  pub level : look.level ≡ level_number found.state.level
  pub paused : look.paused ≡ flag found.state.paused
  pub seeking : look.seeking ≡ flag found.state.seeking
  pub ended : look.ended ≡ flag found.ended
  pub error : look.error ≡ found.state.error
  pub is_seekable : look.is_seekable ≡ flag (is_some found.seekable)
  pub duration : time_numbers look.duration ≡ moment_numbers found.state.duration
  pub position : ticks_in look.position ≡ found.state.position
  pub start_position : ticks_in look.start_position ≡ found.start_position
  pub seekable : span_in look.seekable ≡ span_or_none found.seekable
  pub ranges : look.ranges ≡ length found.buffered
  pub made : look.made ≡ found.made
  pub fault : look.fault ≡ fault_numbers found.fault

-- of a source buffer
pub record IsBufferLookOf (found : BufferAttributes) (look : BufferLook) : Type 0 where
  pub updating : look.updating ≡ flag found.updating
  pub active : look.active ≡ flag found.active
  pub mode : look.mode ≡ mode_number found.mode
  pub phase : look.phase ≡ phase_number found.view.phase
  pub timestamp_offset : ticks_in look.timestamp_offset ≡ found.timestamp_offset
  pub append_window_start : ticks_in look.append_window_start ≡ found.append_window_start
  pub append_window_end :
      time_numbers look.append_window_end ≡ moment_numbers found.append_window_end
  pub held : look.held ≡ found.view.held
  pub used : look.used ≡ found.view.used
  pub ranges : look.ranges ≡ length found.view.ranges
  pub tracks : look.tracks ≡ length found.view.tracks

-- of a track
abbrev pub track_numbers : TrackView → TrackLook
track_numbers track = record {
  id = track.id;
  kind = kind_number track.kind;
  codec = track.codec;
  frames = track.frames;
  ranges = length track.ranges;
}

-- ---- lists in the room of the caller

-- The elements of a list are told in the room from a place on, as many as go in. All else is as it was.
pub record ArePut {A B : Type 0} (IsTold : A → B → Type 0) (from : ℕ) (items : List A)
    (old new : List B) : Type 0 where
  pub same_room : length new ≡ length old
  pub put : (i : ℕ) → from + i < length old
      → IfSome (slice_get items i) (λ item. IfSome (slice_get new (from + i)) (IsTold item))
  pub before : (i : ℕ) → i < from → slice_get new i ≡ slice_get old i
  pub behind : (i : ℕ) → from + length items ≤ i → slice_get new i ≡ slice_get old i

abbrev pub IsRangeTold : Span → TickRange → Type 0
IsRangeTold span range = span_in range ≡ span

abbrev pub IsTrackTold : TrackView → TrackLook → Type 0
IsTrackTold track look = look ≡ track_numbers track

-- the ranges of a buffer, and behind them those of each track
abbrev pub ranges_of : BufferAttributes → List Span
ranges_of found = found.view.ranges ++ flat_map (λ track. track.ranges) found.view.tracks
