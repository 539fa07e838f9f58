-- How many events an action of the element tells at most.
use Rattle.std.proofs.Common.{◌≡◌, ℕ, ◌+◌, ◌==◌, ◌≤◌, ℤ, pos, int_lt, Bool, true, false, cond, ◌||◌, List, [], ◌∷◌, ◌++◌, length, Option, Some, None, is_some, refl, arith, length-append}
use Rattle.std.specs.Ordering.{int_eq}
use Rattle.mse_base.specs.declared.span.Span.{Span}
use Rattle.mse_calls.specs.AnswerAndState.{AnswerAndState}
use Rattle.mse_calls.specs.Level.{has_metadata}
use Rattle.mse_calls.specs.declared.answers.Level.{Level}
use Rattle.mse_calls.specs.declared.answers.Level.TheVariants.{Nothing, Metadata, Current, Future, Enough}
use Rattle.mse_calls.specs.declared.calls.EndKind.{EndKind}
use Rattle.mse_calls.specs.declared.calls.EndKind.TheVariants.{Plain, Network, Decode}
use Rattle.mse_calls.specs.declared.events.EventKind.{EventKind}
use Rattle.mse_calls.specs.declared.events.EventKind.TheVariants.{CanPlay, Playing}
use Rattle.element_ready.specs.declared.facts.Facts.{Facts}
use Rattle.element_ready.specs.Events.{data_events, future_events, enough_events, stall_events, change_events}
use Rattle.element_seek.specs.declared.player_answer.PlayerAnswer.{PlayerAnswer}
use Rattle.element_seek.specs.declared.scene.Scene.{Scene}
use Rattle.element_seek.specs.State.{PlayerState, PlayerChange, has_ended}
use Rattle.element_seek.specs.Seeking.{position_within, after_seek_in, after_seek, after_start, after_load}
use Rattle.element_seek.specs.Playing.{after_rewind, after_unpause, after_play, after_pause, is_playing_on, after_move, after_time_in, after_time, after_advance, after_error, after_fail}
use Rattle.element_seek.specs.Turns.{is_seek_done, is_end_due, is_due, Turn, end_events, seek_turn, end_turn, no_turn, after_turn}
use Rattle.element_seek.specs.Settling.{level_in, facts_in, after_settle}
use Rattle.media_element.specs.Queueing.{told_kinds, turn_kinds}

-- what is told by cases, in both of which it is few
by_case : (n : ℕ) (b : Bool) (x y : PlayerChange) → length x.answer ≤ n → length y.answer ≤ n → length (cond b x y).answer ≤ n
by_case n true x y h k = h
by_case n false x y h k = k

then_few : (m n : ℕ) (x y : List EventKind) → length x ≤ m → length y ≤ n → length (x ++ y) ≤ m + n
then_few m n x y h k = rw (length-append x y) (omega (arith, h, k))

seek_in_few : (range : Option Span) (t : ℤ) (p : PlayerState) → length (after_seek_in range t p).answer ≤ 1
seek_in_few None t p = omega arith
seek_in_few (Some range) t p = omega arith

pub few_in_seek : (t : ℤ) (scene : Scene) (p : PlayerState) → length (after_seek t scene p).answer ≤ 1
few_in_seek t scene p = by_case 1 (has_metadata p.level) (after_seek_in scene.seekable (position_within t scene.duration) p) _ (seek_in_few scene.seekable (position_within t scene.duration) p) (omega arith)

start_few : (scene : Scene) (p : PlayerState) → length (after_start scene p).answer ≤ 1
start_few scene p = by_case 1 (int_lt (pos 0) p.default_start) (after_seek p.default_start scene (record p { default_start = pos 0 })) _ (few_in_seek p.default_start scene (record p { default_start = pos 0 })) (omega arith)

pub few_in_load : (scene : Scene) (p : PlayerState) → length (after_load scene p).answer ≤ 2
few_in_load scene p = omega (arith, start_few scene (record p { level = Metadata }))

error_few : (code : ℕ) (p : PlayerState) → length (after_error code p).answer ≤ 1
error_few code p = by_case 1 (p.error == 0) _ _ (omega arith) (omega arith)

pub few_in_fail : (kind : EndKind) (p : PlayerState) → length (after_fail kind p).answer ≤ 1
few_in_fail Plain p = omega arith
few_in_fail Network p = error_few 2 p
few_in_fail Decode p = error_few 3 p

pub few_in_pause : (p : PlayerState) → length (after_pause p).answer ≤ 2
few_in_pause p = by_case 2 p.paused _ _ (omega arith) (omega arith)

-- ---- a call that may be refused

by_refusal : (n : ℕ) (b : Bool) (x y : AnswerAndState PlayerAnswer PlayerState) → length (told_kinds x.answer) ≤ n → length (told_kinds y.answer) ≤ n → length (told_kinds (cond b x y).answer) ≤ n
by_refusal n true x y h k = h
by_refusal n false x y h k = k

rewind_few : (scene : Scene) (p : PlayerState) → length (after_rewind scene p).answer ≤ 1
rewind_few scene p = by_case 1 (has_ended scene p) (after_seek (pos 0) scene p) _ (few_in_seek (pos 0) scene p) (omega arith)

unpause_few : (p : PlayerState) → length (after_unpause p).answer ≤ 2
unpause_few p = by_case 2 p.paused _ _ (omega arith) (omega arith)

pub few_in_play : (scene : Scene) (p : PlayerState) → length (told_kinds (after_play scene p).answer) ≤ 3
few_in_play scene p =
    let rewound = after_rewind scene p in
    by_refusal 3 (p.error == 4) _ _ (omega arith) (then_few 1 2 rewound.answer (after_unpause rewound.state).answer (rewind_few scene p) (unpause_few rewound.state))

move_few : (t : ℤ) (p : PlayerState) → length (after_move t p).answer ≤ 1
move_few t p = by_case 1 (int_eq t p.position) _ _ (omega arith) (omega arith)

time_in_few : (range : Option Span) (t : ℤ) (p : PlayerState) → length (after_time_in range t p).answer ≤ 1
time_in_few None t p = omega arith
time_in_few (Some range) t p = move_few _ p

time_few : (t : ℤ) (scene : Scene) (p : PlayerState) → length (after_time t scene p).answer ≤ 1
time_few t scene p = by_case 1 (is_playing_on scene p) (after_time_in scene.span t p) _ (time_in_few scene.span t p) (omega arith)

pub few_in_advance : (t : ℤ) (scene : Scene) (p : PlayerState) → length (told_kinds (after_advance t scene p).answer) ≤ 1
few_in_advance t scene p = by_refusal 1 (int_lt t (pos 0)) _ _ (omega arith) (time_few t scene p)

-- ---- a turn

-- something was told exactly where something was due
by_due : (s e : Bool) (x y z : Turn) → is_some x.answer ≡ true → is_some y.answer ≡ true → is_some z.answer ≡ false → is_some (cond s x (cond e y z)).answer ≡ (s || e)
by_due true e x y z h k l = h
by_due false true x y z h k l = k
by_due false false x y z h k l = l

pub due : (scene : Scene) (p : PlayerState) → is_some (after_turn scene p).answer ≡ is_due scene p
due scene p = by_due (is_seek_done p) (is_end_due scene p) (seek_turn p) (end_turn p) (no_turn p) refl refl refl

end_few : (paused : Bool) → length (end_events paused) ≤ 3
end_few true = omega arith
end_few false = omega arith

by_turn : (n : ℕ) (b : Bool) (x y : AnswerAndState (Option (List EventKind)) PlayerState) → length (turn_kinds x.answer) ≤ n → length (turn_kinds y.answer) ≤ n → length (turn_kinds (cond b x y).answer) ≤ n
by_turn n true x y h k = h
by_turn n false x y h k = k

pub few_in_turn : (scene : Scene) (p : PlayerState) → length (turn_kinds (after_turn scene p).answer) ≤ 3
few_in_turn scene p = by_turn 3 (is_seek_done p) _ _ (omega arith) (by_turn 3 (is_end_due scene p) _ _ (end_few p.paused) (omega arith))

-- ---- the end of a step

kinds_by : (n : ℕ) (b : Bool) (x y : List EventKind) → length x ≤ n → length y ≤ n → length (cond b x y) ≤ n
kinds_by n true x y h k = h
kinds_by n false x y h k = k

data_few : (f : Facts) → length (data_events f) ≤ 1
data_few f = kinds_by 1 f.first_loaded _ _ (omega arith) (omega arith)

future_by : (paused : Bool) → length (CanPlay ∷ cond paused [] (Playing ∷ [])) ≤ 2
future_by true = omega arith
future_by false = omega arith

future_few : (f : Facts) → length (future_events f) ≤ 2
future_few f = future_by f.paused

enough_few : (f : Facts) → length (enough_events f) ≤ 3
enough_few f = then_few 2 1 (future_events f) _ (future_few f) (omega arith)

stall_few : (f : Facts) → length (stall_events f) ≤ 2
stall_few f = kinds_by 2 f.playing _ _ (omega arith) (omega arith)

change_few : (old new : Level) (f : Facts) → length (change_events old new f) ≤ 4
change_few Nothing Nothing f = omega arith
change_few Nothing Metadata f = omega arith
change_few Nothing Current f = omega arith
change_few Nothing Future f = omega (arith, future_few f)
change_few Nothing Enough f = omega (arith, enough_few f)
change_few Metadata Nothing f = omega arith
change_few Metadata Metadata f = omega arith
change_few Metadata Current f = omega (arith, data_few f)
change_few Metadata Future f = omega (arith, then_few 1 2 (data_events f) (future_events f) (data_few f) (future_few f))
change_few Metadata Enough f = then_few 1 3 (data_events f) (enough_events f) (data_few f) (enough_few f)
change_few Current Nothing f = omega arith
change_few Current Metadata f = omega arith
change_few Current Current f = omega arith
change_few Current Future f = omega (arith, future_few f)
change_few Current Enough f = omega (arith, enough_few f)
change_few Future Nothing f = omega arith
change_few Future Metadata f = omega (arith, stall_few f)
change_few Future Current f = omega (arith, stall_few f)
change_few Future Future f = omega arith
change_few Future Enough f = omega arith
change_few Enough Nothing f = omega arith
change_few Enough Metadata f = omega (arith, stall_few f)
change_few Enough Current f = omega (arith, stall_few f)
change_few Enough Future f = omega arith
change_few Enough Enough f = omega arith

pub few_in_settle : (scene : Scene) (p : PlayerState) → length (after_settle scene p).answer ≤ 4
few_in_settle scene p = change_few p.level (level_in scene p) (facts_in scene p)
