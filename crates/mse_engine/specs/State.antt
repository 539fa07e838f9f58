-- The machine's state: a media source with its source buffers, and the media element that it is attached to, with the
-- queue of the element's task source (Media Source Extensions; HTML, media elements).
use Rattle.std.specs.Prelude.{ℕ, ℤ, Bool, not, [], Option, None}
use Rattle.mse_calls.specs.Level.{has_metadata}
use Rattle.mse_calls.specs.declared.views.FaultView.{FaultView}
use Rattle.source_state.specs.State.{SourceState, new_source}
use Rattle.media_element.specs.State.{ElementState, new_element}
use Rattle.source_buffers.specs.State.{BufferStates}

-- The source, the first violation of a byte stream format, the bytes that a source buffer may hold, and the gap in ticks
-- across which ranges join.
pub record MediaSource : Type 0 where
  pub state : SourceState
  pub fault : Option FaultView
  pub quota : ℕ
  pub gap : ℤ

-- There is a place for each source buffer that was ever made, empty where the buffer was removed.
pub record State : Type 0 where
  pub source : MediaSource
  pub buffers : BufferStates
  pub element : ElementState

-- ---- the core

-- What the source buffers are told of: the source with what is kept beside it, the element's error code (HTML,
-- MediaError), and whether the element is blank, which is that it has no metadata (HAVE_NOTHING).
pub record CoreSource : Type 0 where
  pub state : SourceState
  pub error : ℕ
  pub blank : Bool
  pub fault : Option FaultView
  pub quota : ℕ
  pub gap : ℤ

-- All that a step of the source and its buffers goes by, but for the position, which an eviction looks at.
pub record Core : Type 0 where
  pub source : CoreSource
  pub buffers : BufferStates

abbrev pub core_source : MediaSource → ElementState → CoreSource
core_source source e = record {
  state = source.state;
  error = e.player.error;
  blank = not (has_metadata e.player.level);
  fault = source.fault;
  quota = source.quota;
  gap = source.gap;
}

abbrev pub core_of : State → Core
core_of st = record { source = core_source st.source st.element; buffers = st.buffers }

-- without what is told of the element
abbrev pub source_of : CoreSource → MediaSource
source_of s = record { state = s.state; fault = s.fault; quota = s.quota; gap = s.gap }

-- ---- the opening state

abbrev pub new_media_source : ℕ → ℤ → MediaSource
new_media_source quota gap = record {
  state = new_source;
  fault = None;
  quota = quota;
  gap = gap;
}

-- with the quota of a source buffer, in bytes, and the gap, in ticks
abbrev pub opening_state : ℕ → ℤ → State
opening_state quota gap = record {
  source = new_media_source quota gap;
  buffers = [];
  element = new_element;
}
