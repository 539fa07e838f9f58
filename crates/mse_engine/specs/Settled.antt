-- The state as each step leaves it (HTML, media elements, ready states).
use Rattle.std.specs.Prelude.{◌≡◌, ℕ, true, false, List, [], map, length, Option, Some, None}
use Rattle.mse_calls.specs.Ready.{is_ended}
use Rattle.track_buffers.specs.Media.{Media}
use Rattle.source_buffers.specs.State.{BufferStates, media_of_all}
use Rattle.element_seek.specs.State.{has_ended}
use Rattle.element_seek.specs.Settling.{level_in}
use Rattle.mse_engine.specs.State.{State}
use Rattle.mse_engine.specs.Scenes.{scene_in}

pub record IsSettledState (st : State) : Type 0 where
  -- the level is that of the position
  pub level : st.element.player.level ≡ level_in (scene_in st) st.element.player
  -- where playback has not ended, its end was not told
  pub finished : has_ended (scene_in st) st.element.player ≡ false
      → st.element.player.finished ≡ false

-- ---- refused calls

-- how many coded frames each track of a source buffer stores, as views show it
abbrev pub frame_counts : Option Media → List ℕ
frame_counts None = []
frame_counts (Some m) = map (λ t. length t.frames) m.tracks

abbrev pub all_frame_counts : BufferStates → List (List ℕ)
all_frame_counts bs = map frame_counts (media_of_all bs)

-- A call did not open the source again: it was not ended, or it is ended still. And it evicted no coded frame: each track
-- stores as many as before.
pub record IsNeitherOpenedNorEvicted (old new : State) : Type 0 where
  pub ended : is_ended old.source.state.ready ≡ true → is_ended new.source.state.ready ≡ true
  pub frames : all_frame_counts new.buffers ≡ all_frame_counts old.buffers
