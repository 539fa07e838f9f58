-- What is left to do, and that a step leaves less of it. A device of the proofs that loops end.
use Rattle.std.specs.Prelude.{◌≡◌, ◌<◌, ℕ, length}
use Rattle.mse_engine.specs.Progress.{turns_left}
use Rattle.mse_engine.specs.Standing.{KeptEngine}

-- how many events wait
abbrev pub events_left : KeptEngine → ℕ
events_left k = length k.element.queue

-- a bound of the turns that the element can take by itself
abbrev pub own_turns_left : KeptEngine → ℕ
own_turns_left k = turns_left k.element.player.seeking k.element.player.finished

-- events were fired, and nothing else changed that a loop looks at
pub record IsCalm (old new : KeptEngine) : Type 0 where
  pub buffers : new.buffers ≡ old.buffers
  pub turns : own_turns_left new ≡ own_turns_left old

-- an event was fired
pub record HasFewerEvents (old new : KeptEngine) : Type 0 where
  pub fewer : events_left new < events_left old
  pub calm : IsCalm old new

-- a turn of the element was taken
pub record HasFewerTurns (old new : KeptEngine) : Type 0 where
  pub fewer : own_turns_left new < own_turns_left old
  pub buffers : new.buffers ≡ old.buffers
