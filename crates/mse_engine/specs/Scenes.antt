-- What the element sees of the source and its buffers.
use Rattle.std.specs.Prelude.{ℤ, List, slice_get, Option, option_map}
use Rattle.mse_base.specs.declared.span.Span.{Span}
use Rattle.mse_calls.specs.Ready.{is_ended}
use Rattle.track_buffers.specs.Buffered.{last_end}
use Rattle.track_buffers.specs.Media.{Media}
use Rattle.source_state.specs.Seekable.{seekable_span}
use Rattle.source_state.specs.State.{SourceState}
use Rattle.element_seek.specs.declared.scene.Scene.{Scene}
use Rattle.source_buffers.specs.State.{media_of_all}
use Rattle.source_buffers.specs.Buffered.{element_ranges, element_span}
use Rattle.mse_engine.specs.State.{Core, State, core_of}

-- The source, and the track buffers of each source buffer.
pub record SourceView : Type 0 where
  pub state : SourceState
  pub media : List (Option Media)

abbrev pub core_view : Core → SourceView
core_view c = record { state = c.source.state; media = media_of_all c.buffers }

abbrev pub source_view : State → SourceView
source_view st = core_view (core_of st)

-- the element's buffered ranges (Media Source Extensions, HTMLMediaElement extensions, buffered)
abbrev pub buffered_in : SourceView → List Span
buffered_in v = element_ranges (is_ended v.state.ready) v.state.active v.media

-- where the first of some ranges starts
abbrev pub start_of_first : List Span → Option ℤ
start_of_first rs = option_map (λ range. range.start) (slice_get rs 0)

abbrev pub seekable_of : SourceView → List Span → Option Span
seekable_of v rs = seekable_span v.state.duration v.state.live (start_of_first rs) (last_end rs)

-- what can be sought (HTMLMediaElement extensions, seekable)
abbrev pub seekable_in : SourceView → Option Span
seekable_in v = seekable_of v (buffered_in v)

-- the buffered range that has a position or ends at it
abbrev pub span_at : ℤ → SourceView → Option Span
span_at position v = element_span position (is_ended v.state.ready) v.state.active v.media

-- the scene of an element at a position, where this is what can be sought
abbrev pub scene_with : Option Span → ℤ → SourceView → Scene
scene_with seekable position v = record {
  duration = v.state.duration;
  ended = is_ended v.state.ready;
  span = span_at position v;
  seekable = seekable;
}

abbrev pub scene_at : ℤ → SourceView → Scene
scene_at position v = scene_with (seekable_in v) position v

-- that of the element of a state
abbrev pub scene_in : State → Scene
scene_in st = scene_at st.element.player.position (source_view st)
