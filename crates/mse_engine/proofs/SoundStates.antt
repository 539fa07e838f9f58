-- A sound engine stands for sound states.
use Rattle.std.proofs.Common.{◌≡◌, List, ap, subst}
use Rattle.std.specs.Prelude.{Option}
use Rattle.mse_base.specs.declared.ticks.Moment.{Moment}
use Rattle.track_buffers.specs.Media.{Media}
use Rattle.source_buffers.specs.All.{AreSound}
use Rattle.source_buffers.specs.State.{all_kept_media, media_of_all}
use Rattle.source_buffers.proofs.KeptParts.{same_media}
use Rattle.mse_engine.specs.State.{MediaSource, State}
use Rattle.mse_engine.specs.Sound.{AreSoundWithin, IsSoundEngine, IsSoundState}
use Rattle.mse_engine.specs.Standing.{KeptEngine, Stands, IsSteady}

pub sound_steady : (k : KeptEngine) → IsSteady k → AreSound (all_kept_media k.buffers) → IsSoundEngine k
sound_steady k steady sound = record { sound = sound; within = steady.within }

-- what is kept has the tracks and the duration that the state has
pub stands_sound : (k : KeptEngine) (st : State) → Stands k st → IsSoundEngine k → IsSoundState st
stands_sound k st h sound =
    let media : all_kept_media k.buffers ≡ media_of_all st.buffers = same_media k.buffers st.buffers h.buffers in
    let duration : k.source.state.duration ≡ st.source.state.duration = ap (λ (s : MediaSource). s.state.duration) h.source in
    subst (λ (ms : List (Option Media)). AreSoundWithin st.source.state.duration ms) media
    (subst (λ (d : Moment). AreSoundWithin d (all_kept_media k.buffers)) duration sound)
