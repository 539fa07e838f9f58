-- A source buffer as a state: its feed and its content.
use Rattle.std.specs.Prelude.{◌≡◌, ℕ, ℤ, Bool, true, false, List, Option}
use Rattle.mse_base.specs.declared.frame.CodedFrame.{CodedFrame}
use Rattle.mse_base.specs.declared.frame.Phase.{Phase}
use Rattle.mse_base.specs.declared.ticks.Moment.{Moment}
use Rattle.mse_base.specs.declared.track.Presentation.{Presentation}
use Rattle.mse_types.specs.declared.answer.Container.{Container}
use Rattle.mse_calls.specs.declared.answers.Ready.{Ready}
use Rattle.byte_stream.specs.Readings.{Reading, ByteItem, reading_from, after_answer, with_bytes, phase_at, ready_at}
use Rattle.byte_stream.specs.Readings as reading
use Rattle.byte_stream.specs.Streams.{StreamView, latest_of}
use Rattle.byte_stream.specs.Streams as byte_stream
use Rattle.track_buffers.specs.Media.{Media}
use Rattle.buffer_state.specs.declared.buffer_context.BufferContext.{BufferContext}
use Rattle.buffer_state.specs.declared.running.Running.{Running}
use Rattle.buffer_state.specs.declared.running.Running.TheVariants.{Nothing, Append, Removal}

-- What feeds a buffer: its byte stream as it is read (Media Source Extensions, input buffer), and what runs.
pub record Feed : Type 0 where
  pub reading : Reading
  pub running : Running

-- Its media, and the presentation of the last initialization segment that was taken, or that a reset left.
pub record Content : Type 0 where
  pub media : Media
  pub latest : Option Presentation

-- What a buffer is told of what it does not keep, without the position and the quota: only what an append evicts and
-- whether it is refused goes by those.
pub record Surroundings : Type 0 where
  pub number : ℕ
  pub ready : Ready
  pub error : Bool
  pub duration : Moment

abbrev pub surroundings : BufferContext → Surroundings
surroundings a = record {
  number = a.number;
  ready = a.ready;
  error = a.error;
  duration = a.duration;
}

-- what is appended, and what the eviction before it goes by besides: the position and the quota
pub record AppendInput : Type 0 where
  pub bytes : List ℕ
  pub position : ℤ
  pub quota : ℕ

abbrev pub append_input : List ℕ → BufferContext → AppendInput
append_input bytes a = record { bytes = bytes; position = a.position; quota = a.quota }

-- ---- what the code keeps

pub record KeptBuffer : Type 0 where
  pub stream : StreamView
  pub media : Media
  pub running : Running

abbrev pub kept_buffer : StreamView → Media → Running → KeptBuffer
kept_buffer stream media running = record { stream = stream; media = media; running = running }

-- A buffer stands for a feed and a content. Many strings may belong to one buffer.
pub record Stands (k : KeptBuffer) (f : Feed) (c : Content) : Type 0 where
  pub stream : byte_stream.Stands k.stream f.reading
  pub media : k.media ≡ c.media
  pub latest : latest_of k.stream ≡ c.latest
  pub running : k.running ≡ f.running

-- ---- the feed

-- Media Source Extensions, 3.1, updating
abbrev pub is_updating : Running → Bool
is_updating Nothing = false
is_updating Append = true
is_updating (Removal start end) = true

abbrev pub is_appending : Running → Bool
is_appending Nothing = false
is_appending Append = true
is_appending (Removal start end) = false

abbrev pub is_removing : Running → Bool
is_removing Nothing = false
is_removing Append = false
is_removing (Removal start end) = true

abbrev pub feed_running : Running → Feed → Feed
feed_running running f = record f { running = running }

abbrev pub idle_feed : Feed → Feed
idle_feed f = feed_running Nothing f

-- more bytes at the end of the string (Media Source Extensions, 3.2, appendBuffer)
abbrev pub feed_with : List ℕ → Feed → Feed
feed_with bytes f = record { reading = with_bytes bytes f.reading; running = Append }

-- the next item was asked for, and this was given
abbrev pub feed_after : Option ByteItem → Feed → Feed
feed_after item f = record f { reading = after_answer item f.reading }

-- an empty string, read with the presentation that is left (Media Source Extensions, 3.5.2, reset parser state)
abbrev pub new_feed : Container → Option Presentation → Feed
new_feed container before = record { reading = reading_from container before; running = Nothing }

-- the append state, just before the next item
abbrev pub phase_in : Feed → Phase
phase_in f = phase_at f.reading

-- the coded frames that come next, up to the first item that is none
abbrev pub ready_in : Feed → List CodedFrame
ready_in f = ready_at f.reading

abbrev pub next_item : Feed → Option ByteItem
next_item f = reading.next_item f.reading
