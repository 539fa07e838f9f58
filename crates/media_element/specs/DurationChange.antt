-- A change of the duration as the element feels it (HTML, media elements, "durationchange"; Media Source Extensions,
-- 2.4.6, duration change algorithm). The scene is that of the new duration.
use Rattle.std.specs.Prelude.{◌≡◌, ℤ, pos, ◌≤ℤ◌, int_lt, true, ◌&&◌, [], ◌∷◌, Option, Some, None, IsSome, if◌then◌else◌}
use Rattle.mse_base.specs.declared.ticks.Moment.{Moment}
use Rattle.mse_base.specs.declared.ticks.Moment.TheVariants.{Nan, At, Infinite}
use Rattle.mse_calls.specs.Level.{has_metadata}
use Rattle.mse_calls.specs.declared.events.EventKind.TheVariants.{DurationChange}
use Rattle.element_seek.specs.declared.scene.Scene.{Scene}
use Rattle.element_seek.specs.State.{PlayerState, PlayerChange, player_change, then_after}
use Rattle.element_seek.specs.Seeking.{after_seek}
use Rattle.element_seek.specs.Inside.{HasSpansInside}
use Rattle.media_element.specs.State.{ElementState}
use Rattle.media_element.specs.Queueing.{after_action}

-- the time that it seeks to, if it seeks: the duration, where it has metadata and its position is after that
abbrev pub sought_end : Moment → PlayerState → Option ℤ
sought_end Nan p = None
sought_end (At d) p = if has_metadata p.level && int_lt d p.position then Some d else None
sought_end Infinite p = None

abbrev pub after_seek_to : Option ℤ → Scene → PlayerState → PlayerChange
after_seek_to None scene p = player_change [] p
after_seek_to (Some t) scene p = after_seek t scene p

abbrev pub after_end_seek : Moment → Scene → PlayerState → PlayerChange
after_end_seek duration scene p = after_seek_to (sought_end duration p) scene p

abbrev pub after_change : Moment → Scene → PlayerState → PlayerChange
after_change duration scene p =
    then_after (player_change (DurationChange ∷ []) p) (after_end_seek duration scene)

abbrev pub after_element_change : Moment → Scene → ElementState → ElementState
after_element_change duration scene e = after_action (after_change duration scene) e

-- a change to the duration of the scene brings the element inside: the spans of the scene lie inside, something can be
-- sought, and the element has metadata and a position that is not negative
pub record IsInReach (duration : Moment) (scene : Scene) (p : PlayerState) : Type 0 where
  pub same : duration ≡ scene.duration
  pub spans : HasSpansInside scene
  pub sought : IsSome scene.seekable
  pub metadata : has_metadata p.level ≡ true
  pub start : pos 0 ≤ℤ p.position
