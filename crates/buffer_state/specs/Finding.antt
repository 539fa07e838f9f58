-- Which track buffer a coded frame of the byte stream finds.
use Rattle.std.specs.Prelude.{◌≡◌, ℕ, IfSome}
use Rattle.mse_base.specs.declared.track.Presentation.{Presentation}
use Rattle.mse_types.specs.declared.answer.Container.{Container}
use Rattle.mse_types.specs.declared.answer.Container.TheVariants.{Mp4, Adts}
use Rattle.adts_stream.specs.Frames.{presentation_of}
use Rattle.track_buffers.specs.Frames.{track_ids}
use Rattle.track_buffers.specs.Numbers.{AreApart, HasBuffers}
use Rattle.buffer_state.specs.State.{Feed, Content}
use Rattle.buffer_state.specs.Replies.{CallResult}

-- Of ADTS frames the presentation is one that they give, with one track; of MP4 it may be any.
abbrev pub IsOfContainer : Container → Presentation → Type 0
IsOfContainer Mp4 p = Unit {0}
IsOfContainer Adts p = (rate : ℕ) × (p ≡ presentation_of rate)

-- What each call and each step keeps: each video or audio track of the latest presentation has a track buffer, no two
-- track buffers have one number, and the latest presentation is of the container.
pub record HasBuffersForFrames (f : Feed) (c : Content) : Type 0 where
  pub buffers : IfSome c.latest (λ p. HasBuffers p c.media.tracks)
  pub apart : AreApart (track_ids c.media.tracks)
  pub of_container : IfSome c.latest (IsOfContainer f.reading.container)

-- so it is behind a call or a step
abbrev pub HasBuffersBehind : CallResult → Type 0
HasBuffersBehind r = HasBuffersForFrames r.feed r.content
