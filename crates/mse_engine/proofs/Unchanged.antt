-- What an action of the element leaves as it is: its error code and its level.
use Rattle.std.proofs.Common.{◌≡◌, ◌∙◌, ◌==◌, ℤ, pos, int_lt, Bool, true, false, cond, ◌&&◌, Option, Some, None, refl}
use Rattle.std.specs.Ordering.{int_eq}
use Rattle.mse_base.specs.declared.span.Span.{Span}
use Rattle.mse_base.specs.declared.ticks.Moment.{Moment}
use Rattle.mse_base.specs.declared.ticks.Moment.TheVariants.{Nan, At, Infinite}
use Rattle.mse_calls.specs.AnswerAndState.{AnswerAndState}
use Rattle.mse_calls.specs.Level.{has_metadata}
use Rattle.element_seek.specs.declared.scene.Scene.{Scene}
use Rattle.element_seek.specs.State.{PlayerState, has_ended}
use Rattle.element_seek.specs.Seeking.{position_within, after_seek_in, after_seek}
use Rattle.element_seek.specs.Playing.{after_rewind, after_unpause, after_play, after_pause, is_playing_on, after_move, after_time_in, after_time, after_advance}
use Rattle.element_seek.specs.Turns.{is_seek_done, is_end_due, after_turn}
use Rattle.media_element.specs.DurationChange.{after_seek_to, after_end_seek}

pub record IsUnchanged (p q : PlayerState) : Type 0 where
  pub error : q.error ≡ p.error
  pub level : q.level ≡ p.level

pub same : (p : PlayerState) → IsUnchanged p p
same p = record { error = refl; level = refl }

both : (p q r : PlayerState) → IsUnchanged p q → IsUnchanged q r → IsUnchanged p r
both p q r h k = record { error = k.error ∙ h.error; level = k.level ∙ h.level }

by_case : {A : Type 0} (b : Bool) (x y : AnswerAndState A PlayerState) (p : PlayerState) → IsUnchanged p x.state → IsUnchanged p y.state → IsUnchanged p (cond b x y).state
by_case true x y p h k = h
by_case false x y p h k = k

seek_in : (range : Option Span) (t : ℤ) (p : PlayerState) → IsUnchanged p (after_seek_in range t p).state
seek_in None t p = record { error = refl; level = refl }
seek_in (Some range) t p = record { error = refl; level = refl }

pub in_seek : (t : ℤ) (scene : Scene) (p : PlayerState) → IsUnchanged p (after_seek t scene p).state
in_seek t scene p = by_case (has_metadata p.level) (after_seek_in scene.seekable (position_within t scene.duration) p) _ p (seek_in scene.seekable (position_within t scene.duration) p) (record { error = refl; level = refl })

rewind : (scene : Scene) (p : PlayerState) → IsUnchanged p (after_rewind scene p).state
rewind scene p = by_case (has_ended scene p) (after_seek (pos 0) scene p) _ p (in_seek (pos 0) scene p) (same p)

unpause : (p : PlayerState) → IsUnchanged p (after_unpause p).state
unpause p = by_case p.paused _ _ p (record { error = refl; level = refl }) (same p)

pub in_play : (scene : Scene) (p : PlayerState) → IsUnchanged p (after_play scene p).state
in_play scene p =
    let rewound = after_rewind scene p in
    by_case (p.error == 4) _ _ p (same p) (both p rewound.state (after_unpause rewound.state).state (rewind scene p) (unpause rewound.state))

pub in_pause : (p : PlayerState) → IsUnchanged p (after_pause p).state
in_pause p = by_case p.paused _ _ p (same p) (record { error = refl; level = refl })

move : (t : ℤ) (p : PlayerState) → IsUnchanged p (after_move t p).state
move t p = by_case (int_eq t p.position) _ _ p (same p) (record { error = refl; level = refl })

time_in : (range : Option Span) (t : ℤ) (p : PlayerState) → IsUnchanged p (after_time_in range t p).state
time_in None t p = same p
time_in (Some range) t p = move _ p

time : (t : ℤ) (scene : Scene) (p : PlayerState) → IsUnchanged p (after_time t scene p).state
time t scene p = by_case (is_playing_on scene p) (after_time_in scene.span t p) _ p (time_in scene.span t p) (same p)

pub in_advance : (t : ℤ) (scene : Scene) (p : PlayerState) → IsUnchanged p (after_advance t scene p).state
in_advance t scene p = by_case (int_lt t (pos 0)) _ _ p (same p) (time t scene p)

pub in_turn : (scene : Scene) (p : PlayerState) → IsUnchanged p (after_turn scene p).state
in_turn scene p = by_case (is_seek_done p) _ _ p (record { error = refl; level = refl }) (by_case (is_end_due scene p) _ _ p (record { error = refl; level = refl }) (same p))

fall_by : (d : ℤ) (scene : Scene) (b : Bool) (p : PlayerState) → IsUnchanged p (after_seek_to (cond b (Some d) None) scene p).state
fall_by d scene true p = in_seek d scene p
fall_by d scene false p = same p

pub in_fall : (duration : Moment) (scene : Scene) (p : PlayerState) → IsUnchanged p (after_end_seek duration scene p).state
in_fall Nan scene p = same p
in_fall (At d) scene p = fall_by d scene (has_metadata p.level && int_lt d p.position) p
in_fall Infinite scene p = same p
