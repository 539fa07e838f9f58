-- Events are queued behind the others and fired from the front, and what the element tells is queued at it.
use Rattle.std.specs.Prelude.{List, [], ◌++◌, map, drop, Option, Some, None}
use Rattle.mse_calls.specs.AnswerAndState.{AnswerAndState}
use Rattle.mse_calls.specs.declared.answers.Name.{Name}
use Rattle.mse_calls.specs.declared.events.Event.{Event}
use Rattle.mse_calls.specs.declared.events.EventKind.{EventKind}
use Rattle.mse_calls.specs.declared.events.Target.{Target}
use Rattle.mse_calls.specs.declared.events.Target.TheVariants.{Element}
use Rattle.element_seek.specs.declared.player_answer.PlayerAnswer.{PlayerAnswer}
use Rattle.element_seek.specs.declared.player_answer.PlayerAnswer.TheVariants.{Done, Refused}
use Rattle.element_seek.specs.declared.scene.Scene.{Scene}
use Rattle.element_seek.specs.State.{PlayerState, PlayerChange, player_change}
use Rattle.element_seek.specs.Turns.{after_turn}
use Rattle.media_element.specs.State.{ElementState}

-- the event of a kind at a target
abbrev pub event_at : Target → EventKind → Event
event_at target kind = record { target = target; kind = kind }

abbrev pub events_at : Target → List EventKind → List Event
events_at target kinds = map (event_at target) kinds

abbrev pub element_events : List EventKind → List Event
element_events kinds = events_at Element kinds

-- the events behind those that wait
abbrev pub with_events : List Event → ElementState → ElementState
with_events events e = record e { queue = e.queue ++ events }

-- the first of those that wait is fired
abbrev pub after_fire : ElementState → ElementState
after_fire e = record e { queue = drop 1 e.queue }

-- the state of the element that is told, with the events that are told queued at it
abbrev pub after_told : PlayerChange → ElementState → ElementState
after_told told e = record { player = told.state; queue = e.queue ++ element_events told.answer }

-- an action of the element
abbrev pub after_action : (PlayerState → PlayerChange) → ElementState → ElementState
after_action action e = after_told (action e.player) e

-- ---- a call that may be refused

-- what is told: nothing where it is refused
abbrev pub told_kinds : PlayerAnswer → List EventKind
told_kinds (Done kinds) = kinds
told_kinds (Refused name) = []

abbrev pub refusal : PlayerAnswer → Option Name
refusal (Done kinds) = None
refusal (Refused name) = Some name

-- the call as an action
abbrev pub change_by_call : (PlayerState → AnswerAndState PlayerAnswer PlayerState) → PlayerState
    → PlayerChange
change_by_call call p = player_change (told_kinds (call p).answer) (call p).state

abbrev pub after_player_call : (PlayerState → AnswerAndState PlayerAnswer PlayerState) → ElementState
    → ElementState
after_player_call call e = after_action (change_by_call call) e

-- ---- a turn

-- what is told: nothing where nothing was due
abbrev pub turn_kinds : Option (List EventKind) → List EventKind
turn_kinds None = []
turn_kinds (Some kinds) = kinds

-- the turn as an action
abbrev pub change_by_turn : Scene → PlayerState → PlayerChange
change_by_turn scene p =
    player_change (turn_kinds (after_turn scene p).answer) (after_turn scene p).state

abbrev pub after_own_turn : Scene → ElementState → ElementState
after_own_turn scene e = after_action (change_by_turn scene) e
