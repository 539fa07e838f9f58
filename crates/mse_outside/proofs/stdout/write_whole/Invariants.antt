use Rattle.std.proofs.Common.{◌≡◌, ◌++◌, List, ℕ}
use Rattle.mse_outside.proofs.Taken.{IsWritten}
use Rattle.mse_outside.proofs.stdout.write_whole.Given as goal

-- the bytes are those that were taken, and the rest
abbrev pub invariant-loop-turn : goal.invariant-loop-turn
invariant-loop-turn g l = (front : List ℕ) × (l.bytes ≡ front ++ l.rest) × IsWritten l.turn front (g.O.Output.told l.fn.output) (g.O.Output.told l.output)
