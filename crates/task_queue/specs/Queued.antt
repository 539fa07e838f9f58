-- What a queue of events holds.
use Rattle.std.specs.Prelude.{ℕ, List}
use Rattle.mse_calls.specs.declared.events.Event.{Event}

-- the events, the one that is fired next first, and for how many more there is room
pub record QueueView : Type 0 where
  pub events : List Event
  pub spare : ℕ
