-- What appending comes to: what the source buffers hold, the duration, and the first fault.
use Rattle.std.specs.Prelude.{◌≡◌, ℕ, List, filter_map, Option, option_map}
use Rattle.mse_base.specs.declared.frame.Phase.{Phase}
use Rattle.mse_base.specs.declared.span.Span.{Span}
use Rattle.mse_base.specs.declared.ticks.Moment.{Moment}
use Rattle.mse_calls.specs.Ready.{is_ended}
use Rattle.mse_calls.specs.declared.views.FaultView.{FaultView}
use Rattle.track_store.specs.State.{TrackState}
use Rattle.track_buffers.specs.Buffered.{buffered_of, track_ranges}
use Rattle.byte_stream.specs.Readings.{held_at}
use Rattle.buffer_state.specs.State.{phase_in}
use Rattle.source_buffers.specs.State.{BufferState, in_slot}
use Rattle.mse_engine.specs.State.{Core, State, core_of}
use Rattle.mse_engine.specs.Scenes.{core_view, buffered_in, seekable_in}

-- a source buffer: its tracks with their coded frames, the ranges of each and of all, the append state, and the bytes
-- that it holds
pub record BufferOutcome : Type 0 where
  pub number : ℕ
  pub tracks : List TrackState
  pub track_ranges : List (List Span)
  pub ranges : List Span
  pub phase : Phase
  pub held : List ℕ

pub record Outcome : Type 0 where
  pub buffers : List BufferOutcome
  pub duration : Moment
  pub fault : Option FaultView
  pub buffered : List Span
  pub seekable : Option Span

abbrev pub buffer_outcome : ℕ → Core → BufferState → BufferOutcome
buffer_outcome k c b = record {
  number = k;
  tracks = b.content.media.tracks;
  track_ranges = track_ranges b.content.media;
  ranges = buffered_of (is_ended c.source.state.ready) b.content.media;
  phase = phase_in b.feed;
  held = held_at b.feed.reading;
}

-- of each buffer in the list of source buffers
abbrev pub core_outcome : Core → Outcome
core_outcome c = record {
  buffers =
      filter_map (λ k. option_map (buffer_outcome k c) (in_slot k c.buffers))
      c.source.state.listed;
  duration = c.source.state.duration;
  fault = c.source.fault;
  buffered = buffered_in (core_view c);
  seekable = seekable_in (core_view c);
}

abbrev pub outcome_of : State → Outcome
outcome_of st = core_outcome (core_of st)

-- Appending came to the same in two states. Their cores are the same too, so that it goes on alike.
pub record AreAlike (a b : State) : Type 0 where
  pub outcome : outcome_of a ≡ outcome_of b
  pub core : core_of a ≡ core_of b
