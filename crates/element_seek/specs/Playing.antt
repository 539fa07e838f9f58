-- Play, pause, and the passing of time (HTML, media elements, "playing the media resource").
use Rattle.std.specs.Prelude.{ℕ, ◌==◌, ℤ, pos, ◌+ℤ◌, int_lt, Bool, true, false, not, ◌&&◌, [], ◌∷◌, Option, Some, None, if◌then◌else◌}
use Rattle.std.specs.Int.{int_min}
use Rattle.std.specs.Ordering.{int_eq}
use Rattle.mse_base.specs.declared.span.Span.{Span}
use Rattle.mse_calls.specs.AnswerAndState.{AnswerAndState}
use Rattle.mse_calls.specs.Level.{has_metadata, has_future_data}
use Rattle.mse_calls.specs.declared.answers.Level.{Level}
use Rattle.mse_calls.specs.declared.answers.Name.TheVariants.{NotSupported, TypeError}
use Rattle.mse_calls.specs.declared.calls.EndKind.{EndKind}
use Rattle.mse_calls.specs.declared.calls.EndKind.TheVariants.{Plain, Network, Decode}
use Rattle.mse_calls.specs.declared.events.EventKind.{EventKind}
use Rattle.mse_calls.specs.declared.events.EventKind.TheVariants as event
use Rattle.element_seek.specs.declared.player_answer.PlayerAnswer.{PlayerAnswer}
use Rattle.element_seek.specs.declared.player_answer.PlayerAnswer.TheVariants.{Done, Refused}
use Rattle.element_seek.specs.declared.scene.Scene.{Scene}
use Rattle.element_seek.specs.State.{PlayerState, PlayerChange, player_change, then_after, has_ended, is_playing}
use Rattle.element_seek.specs.Seeking.{after_seek}

-- what is told, as the answer of a call that may be refused
abbrev pub done_answer : PlayerChange → AnswerAndState PlayerAnswer PlayerState
done_answer told = record { answer = Done told.answer; state = told.state }

-- ---- play

-- playback that has ended begins again at 0
abbrev pub after_rewind : Scene → PlayerState → PlayerChange
after_rewind scene p = if has_ended scene p then after_seek (pos 0) scene p else player_change [] p

-- the event of an element that is no longer paused, at a level
abbrev pub play_event : Level → EventKind
play_event level = if has_future_data level then event.Playing else event.Waiting

abbrev pub after_unpause : PlayerState → PlayerChange
after_unpause p =
    if p.paused
    then player_change (event.Play ∷ play_event p.level ∷ []) (record p { paused = false })
    else player_change [] p

-- play: refused where the source is not supported, which is the error of code 4
abbrev pub after_play : Scene → PlayerState → AnswerAndState PlayerAnswer PlayerState
after_play scene p =
    if p.error == 4 then record { answer = Refused NotSupported; state = p }
    else done_answer (then_after (after_rewind scene p) after_unpause)

-- ---- pause

abbrev pub after_pause : PlayerState → PlayerChange
after_pause p =
    if p.paused then player_change [] p
    else player_change (event.TimeUpdate ∷ event.Pause ∷ []) (record p { paused = true })

-- ---- the passing of time

-- the element plays on: it plays, it is not seeking, and it has future data
abbrev pub is_playing_on : Scene → PlayerState → Bool
is_playing_on scene p = is_playing scene p && (not p.seeking && has_future_data p.level)

abbrev pub after_move : ℤ → PlayerState → PlayerChange
after_move t p =
    if int_eq t p.position then player_change [] p
    else player_change (event.TimeUpdate ∷ []) (record p { position = t })

-- the position moves on, up to the end of the buffered range
abbrev pub after_time_in : Option Span → ℤ → PlayerState → PlayerChange
after_time_in None t p = player_change [] p
after_time_in (Some range) t p = after_move (int_min (p.position +ℤ t) range.end) p

abbrev pub after_time : ℤ → Scene → PlayerState → PlayerChange
after_time t scene p =
    if is_playing_on scene p then after_time_in scene.span t p else player_change [] p

-- a length of time passes, which is not negative
abbrev pub after_advance : ℤ → Scene → PlayerState → AnswerAndState PlayerAnswer PlayerState
after_advance t scene p =
    if int_lt t (pos 0) then record { answer = Refused TypeError; state = p }
    else done_answer (after_time t scene p)

-- ---- an error

-- the error code (HTML, MediaError): 4, the source is not supported, where there is no metadata
abbrev pub error_code : ℕ → Level → ℕ
error_code code level = if has_metadata level then code else 4

-- the first error stays
abbrev pub after_error : ℕ → PlayerState → PlayerChange
after_error code p =
    if p.error == 0
    then player_change (event.Error ∷ []) (record p { error = error_code code p.level })
    else player_change [] p

-- the element's part of the end of stream algorithm (Media Source Extensions, 2.4.7)
abbrev pub after_fail : EndKind → PlayerState → PlayerChange
after_fail Plain p = player_change [] p
after_fail Network p = after_error 2 p
after_fail Decode p = after_error 3 p
