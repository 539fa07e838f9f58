-- What is shown of the whole machine, and what a page reads of it.
use Rattle.std.specs.Prelude.{ℕ, Option}
use Rattle.mse_calls.specs.Ready.{is_ended}
use Rattle.mse_calls.specs.declared.views.Attributes.{Attributes}
use Rattle.mse_calls.specs.declared.views.BufferAttributes.{BufferAttributes}
use Rattle.mse_calls.specs.declared.views.View.{View}
use Rattle.mse_base.specs.declared.span.Span.{Span}
use Rattle.element_seek.specs.State.{has_ended}
use Rattle.source_state.specs.State.{is_listed_in}
use Rattle.source_buffers.specs.Views.{attributes_at, buffer_views}
use Rattle.mse_engine.specs.State.{State}
use Rattle.mse_engine.specs.Scenes.{buffered_in, scene_in, seekable_in, source_view, span_at}
use Rattle.mse_engine.specs.Calls.{state_view}

abbrev pub view_in : State → View
view_in st = record {
  state = state_view st;
  buffers = buffer_views (is_ended st.source.state.ready) st.buffers;
  fault = st.source.fault;
}

-- the element's buffered range that has the position or ends at it
abbrev pub span_in : State → Option Span
span_in st = span_at st.element.player.position (source_view st)

-- the attributes of the source and of the element (HTML, media elements; Media Source Extensions, 2.1), how many source
-- buffers were ever made, and the first fault
abbrev pub attributes_in : State → Attributes
attributes_in st = record {
  state = state_view st;
  start_position = st.element.player.default_start;
  ended = has_ended (scene_in st) st.element.player;
  seekable = seekable_in (source_view st);
  buffered = buffered_in (source_view st);
  made = st.source.state.made;
  fault = st.source.fault;
}

-- those of the source buffer of a number, if it is in sourceBuffers (Media Source Extensions, 3.1)
abbrev pub buffer_attributes_in : ℕ → State → Option BufferAttributes
buffer_attributes_in k st =
    attributes_at k (is_ended st.source.state.ready) (is_listed_in k st.source.state.active) st.buffers
