-- The state of a media source (Media Source Extensions, ReadyState).
use Rattle.std.specs.Prelude.{Bool, true, false}
use Rattle.mse_calls.specs.declared.answers.Ready.{Ready}
use Rattle.mse_calls.specs.declared.answers.Ready.TheVariants.{Closed, Opened, Ended}

abbrev pub is_closed : Ready → Bool
is_closed Closed = true
is_closed Opened = false
is_closed Ended = false

abbrev pub is_open : Ready → Bool
is_open Closed = false
is_open Opened = true
is_open Ended = false

abbrev pub is_ended : Ready → Bool
is_ended Closed = false
is_ended Opened = false
is_ended Ended = true
