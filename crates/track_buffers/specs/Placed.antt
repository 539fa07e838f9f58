-- What processing a coded frame of the track buffer at a place asks and keeps.
use Rattle.std.specs.Prelude.{◌≡◌, ℕ, ◌<◌, ◌≤◌, ℤ, pos, ◌≤ℤ◌, false, List, length, slice_get}
use Rattle.std.specs.Option.{IfSome}
use Rattle.mse_base.specs.declared.frame.CodedFrame.{CodedFrame}
use Rattle.mse_base.specs.declared.ticks.Moment.{Moment}
use Rattle.mse_base.specs.Moments.{IsNotAfter}
use Rattle.track_store.specs.declared.store.Stored.{Stored}
use Rattle.track_store.specs.declared.tracks.Settings.{Settings}
use Rattle.track_store.specs.declared.tracks.Track.{Track}
use Rattle.track_store.specs.Kept.{AreSoundAndCountable, HasSpareRoom}
use Rattle.track_store.specs.State.{TrackState, states_of}
use Rattle.track_buffers.specs.declared.effects.SourceEffect.{SourceEffect}
use Rattle.track_buffers.specs.Frames.{AreFramesSetAt, track_ids}
use Rattle.track_buffers.specs.Media.{AreEndedWithin}

-- all tracks are sound and can be counted, and each store has room for a frame
pub record IsReadyAt {S : Type 0} (frames : S → List Stored) (spare : S → ℕ) (i : ℕ)
    (frame : CodedFrame) (settings : Settings) (ts : List (Track S)) : Type 0 where
  pub in_range : i < length ts
  pub room : HasSpareRoom spare 1 ts
  pub sound_and_countable : AreSoundAndCountable (states_of frames ts)
  pub window_start : pos 0 ≤ℤ settings.window_start
  pub dur_not_negative : pos 0 ≤ℤ frame.dur

-- the duration changes once at most and does not fall, all frames end within it, and no initialization segment is told
pub record IsFrameEffect (duration : Moment) (old new : List TrackState) (effect : SourceEffect)
    : Type 0 where
  pub changes : effect.duration_changes ≤ 1
  pub within_duration : AreEndedWithin duration old → AreEndedWithin effect.duration new
  pub no_fall : IsNotAfter duration effect.duration
  pub no_init : effect.received_init ≡ false

-- all tracks are sound and can be counted and have their numbers, and only the frames of the one at the place changed
pub record AreKeptButAt (i : ℕ) (old new : List TrackState) : Type 0 where
  pub sound_and_countable : AreSoundAndCountable new
  pub ids : track_ids new ≡ track_ids old
  pub frames : IfSome (slice_get new i) (λ t. AreFramesSetAt i old new t)
