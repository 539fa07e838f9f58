-- States that show what the invariants of a state add to one another.
use Rattle.std.specs.Prelude.{pos, true, [], ◌∷◌}
use Rattle.element_seek.specs.State.{new_player}
use Rattle.media_element.specs.State.{new_element}
use Rattle.source_state.specs.State.{new_source}
use Rattle.mse_engine.specs.State.{State, new_media_source, opening_state}

-- its end was told, though playback has not ended
abbrev pub told_end : State
told_end = record (opening_state 0 (pos 0)) {
  element = record new_element { player = record new_player { finished = true } };
}

-- a number is in the list, and there is no buffer
abbrev pub listed_without_buffer : State
listed_without_buffer = record (opening_state 0 (pos 0)) {
  source = record (new_media_source 0 (pos 0)) { state = record new_source { listed = 0 ∷ [] } };
}
