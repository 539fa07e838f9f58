-- A media element as a state, without a decoder.
use Rattle.std.specs.Prelude.{ℕ, ◌==◌, ℤ, pos, Bool, true, false, not, ◌&&◌, List, ◌++◌}
use Rattle.mse_base.specs.Moments.{is_same_moment}
use Rattle.mse_base.specs.declared.ticks.Moment.TheVariants.{At}
use Rattle.mse_calls.specs.AnswerAndState.{AnswerAndState}
use Rattle.mse_calls.specs.Level.{has_metadata}
use Rattle.mse_calls.specs.declared.answers.Level.{Level}
use Rattle.mse_calls.specs.declared.answers.Level.TheVariants.{Nothing}
use Rattle.mse_calls.specs.declared.events.EventKind.{EventKind}
use Rattle.element_seek.specs.declared.scene.Scene.{Scene}

-- Its level (HTML, readyState), whether loadeddata was queued, the official playback position, the default playback
-- start position, whether it is paused, whether it is seeking, whether the end of playback was told since playback
-- last ended, and its error code (HTML, MediaError), 0 where there is no error.
pub record PlayerState : Type 0 where
  pub level : Level
  pub loaded_before : Bool
  pub position : ℤ
  pub default_start : ℤ
  pub paused : Bool
  pub seeking : Bool
  pub finished : Bool
  pub error : ℕ

abbrev pub new_player : PlayerState
new_player = record {
  level = Nothing;
  loaded_before = false;
  position = pos 0;
  default_start = pos 0;
  paused = true;
  seeking = false;
  finished = false;
  error = 0;
}

-- the events at the element, in order, and the state that is left
abbrev pub PlayerChange : Type 0
PlayerChange = AnswerAndState (List EventKind) PlayerState

abbrev pub player_change : List EventKind → PlayerState → PlayerChange
player_change events p = record { answer = events; state = p }

-- one thing and then another, which tells its events behind
abbrev pub then_after : PlayerChange → (PlayerState → PlayerChange) → PlayerChange
then_after first next =
    player_change (first.answer ++ (next first.state).answer) (next first.state).state

-- ended playback (HTML, media elements): the metadata is there, the source is ended, and the position is the duration
abbrev pub has_ended : Scene → PlayerState → Bool
has_ended scene p =
    has_metadata p.level && (scene.ended && is_same_moment (At p.position) scene.duration)

-- the element plays: it is not paused, it has no error, and playback has not ended
abbrev pub is_playing : Scene → PlayerState → Bool
is_playing scene p = not p.paused && (p.error == 0 && not (has_ended scene p))
