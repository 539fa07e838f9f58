-- A media element together with the events that were queued, at whatever target, and not yet fired (HTML, event loops,
-- the media element event task source).
use Rattle.std.specs.Prelude.{ℕ, List, []}
use Rattle.mse_calls.specs.declared.events.Event.{Event}
use Rattle.element_seek.specs.State.{PlayerState, new_player}

-- the element, and the events, the one that is fired next first
pub record ElementState : Type 0 where
  pub player : PlayerState
  pub queue : List Event

-- the state, and for how many more events there is room
pub record ElementView : Type 0 where
  pub state : ElementState
  pub spare : ℕ

abbrev pub new_element : ElementState
new_element = record { player = new_player; queue = [] }
