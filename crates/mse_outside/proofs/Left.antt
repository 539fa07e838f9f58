-- What an open file that tells what is left has given so far.
use Rattle.std.proofs.Common.{◌≡◌, ◌≤◌, ◌+◌, ◌++◌, ℕ, List, Option, length}
use Rattle.mse_outside.specs.Outside.{IfTold}
use Rattle.mse_outside.specs.Source.{Unread}

-- these bytes were given in so many reads, and what is left is the rest
pub record IsTaken (turns : ℕ) (more : List ℕ) (old new : Unread) : Type 0 where
  pub bytes : old.bytes ≡ more ++ new.bytes
  pub broken : old.broken ≡ new.broken
  pub in_time : turns + new.interrupts ≤ length more + old.interrupts

abbrev pub IsGiven : ℕ → List ℕ → Option Unread → Option Unread → Type 0
IsGiven turns more old new = IfTold old new (IsTaken turns more)
