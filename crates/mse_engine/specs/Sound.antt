-- Sound tracks, whose frames end within the duration.
use Rattle.std.specs.Prelude.{ℕ, List, [], ◌∷◌, Option}
use Rattle.mse_base.specs.declared.ticks.Moment.{Moment}
use Rattle.mse_calls.specs.declared.entry.Entry.{Entry}
use Rattle.track_buffers.specs.Media.{Media}
use Rattle.source_buffers.specs.All.{AreSlotsWithin, AreSound}
use Rattle.source_buffers.specs.State.{all_kept_media, media_of_all}
use Rattle.mse_engine.specs.State.{State}
use Rattle.mse_engine.specs.Run.{entry_meaning}
use Rattle.mse_engine.specs.Standing.{KeptEngine}

-- Each track buffer is sound, and each stored frame ends at or before the duration; without a duration there is none.
pub record AreSoundWithin (duration : Moment) (media : List (Option Media)) : Type 0 where
  pub sound : AreSound media
  pub within : AreSlotsWithin duration media

-- of what the engine keeps
abbrev pub IsSoundEngine : KeptEngine → Type 0
IsSoundEngine k = AreSoundWithin k.source.state.duration (all_kept_media k.buffers)

-- of the machine's state
abbrev pub IsSoundState : State → Type 0
IsSoundState st = AreSoundWithin st.source.state.duration (media_of_all st.buffers)

-- the state behind each entry is sound
abbrev pub AreSoundBehind : List (List ℕ) → State → List Entry → Type 0
AreSoundBehind blobs st [] = Unit {0}
AreSoundBehind blobs st (entry ∷ entries) =
    IsSoundState (entry_meaning blobs st entry).state
    × AreSoundBehind blobs (entry_meaning blobs st entry).state entries
