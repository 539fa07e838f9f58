-- The position of the element inside the media, as every step leaves it (HTML, media elements, official playback
-- position).
use Rattle.std.specs.Prelude.{◌≡◌, pos, true, false, Option, Some, None, []}
use Rattle.std.specs.List.{AllByRecursion}
use Rattle.mse_base.specs.Moments.{is_after, is_nan}
use Rattle.mse_base.specs.declared.ticks.Moment.{Moment}
use Rattle.mse_base.specs.declared.ticks.Moment.TheVariants.{Infinite}
use Rattle.mse_calls.specs.Level.{has_metadata}
use Rattle.track_buffers.specs.Media.{Media}
use Rattle.source_state.specs.State.{SourceState}
use Rattle.source_buffers.specs.State.{BufferStates, media_of_all}
use Rattle.element_seek.specs.Inside.{IsInside, IsSpanInside}
use Rattle.element_seek.specs.State.{PlayerState}
use Rattle.mse_engine.specs.State.{State}

-- the element in the media of a source
pub record IsPositionInside (s : SourceState) (p : PlayerState) : Type 0 where
  -- the duration is not negative
  pub lasting : is_after (pos 0) s.duration ≡ false
  -- the live seekable range neither starts before 0 nor ends before it starts
  pub live : IsSpanInside Infinite s.live
  -- where the element has metadata there is a duration
  pub timed : has_metadata p.level ≡ true → is_nan s.duration ≡ false
  -- before it has metadata it is at the start
  pub start : has_metadata p.level ≡ false → p.position ≡ pos 0
  -- the position is neither negative nor after the duration
  pub inside : IsInside s.duration p.position

abbrev pub HasNoTracks : Option Media → Type 0
HasNoTracks None = Unit {0}
HasNoTracks (Some m) = m.tracks ≡ []

-- while there is no duration, no buffer has received an initialization segment
abbrev pub AreUntracked : Moment → BufferStates → Type 0
AreUntracked d bs = is_nan d ≡ true → AllByRecursion HasNoTracks (media_of_all bs)

pub record IsInsideState (st : State) : Type 0 where
  pub position_inside : IsPositionInside st.source.state st.element.player
  pub untracked : AreUntracked st.source.state.duration st.buffers
