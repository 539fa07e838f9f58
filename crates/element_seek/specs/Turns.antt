-- What an element does by itself: it completes a seek, and it tells the end of playback (HTML, media elements,
-- "seeking", step 14 and on, and "reaches the end of the media resource").
use Rattle.std.specs.Prelude.{◌==◌, Bool, true, false, not, ◌&&◌, ◌||◌, List, [], ◌∷◌, Option, Some, None, if◌then◌else◌}
use Rattle.mse_calls.specs.AnswerAndState.{AnswerAndState}
use Rattle.mse_calls.specs.Level.{has_current_data}
use Rattle.mse_calls.specs.declared.events.EventKind.{EventKind}
use Rattle.mse_calls.specs.declared.events.EventKind.TheVariants.{TimeUpdate, Seeked, Pause, Ended}
use Rattle.element_seek.specs.declared.scene.Scene.{Scene}
use Rattle.element_seek.specs.State.{PlayerState, has_ended}

-- the element is seeking, and the data of its position is there
abbrev pub is_seek_done : PlayerState → Bool
is_seek_done p = p.seeking && has_current_data p.level

-- playback has ended, and this was not told yet
abbrev pub is_end_due : Scene → PlayerState → Bool
is_end_due scene p = not p.seeking && (p.error == 0 && (has_ended scene p && not p.finished))

abbrev pub is_due : Scene → PlayerState → Bool
is_due scene p = is_seek_done p || is_end_due scene p

-- the events of a turn, `None` where nothing is due, and the state that is left
abbrev pub Turn : Type 0
Turn = AnswerAndState (Option (List EventKind)) PlayerState

-- what a paused element, or another, tells at the end
abbrev pub end_events : Bool → List EventKind
end_events paused = TimeUpdate ∷ (if paused then (Ended ∷ []) else (Pause ∷ Ended ∷ []))

abbrev pub seek_turn : PlayerState → Turn
seek_turn p = record {
  answer = Some (TimeUpdate ∷ Seeked ∷ []);
  state = record p { seeking = false };
}

abbrev pub end_turn : PlayerState → Turn
end_turn p = record {
  answer = Some (end_events p.paused);
  state = record p { finished = true; paused = true };
}

abbrev pub no_turn : PlayerState → Turn
no_turn p = record { answer = None; state = p }

abbrev pub after_turn : Scene → PlayerState → Turn
after_turn scene p =
    if is_seek_done p then seek_turn p
    else (if is_end_due scene p then end_turn p
    else no_turn p)
