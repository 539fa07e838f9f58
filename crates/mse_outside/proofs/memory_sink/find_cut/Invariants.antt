use Rattle.std.proofs.Common.{◌≡◌, drop}
use Rattle.mse_outside.specs.Memory.{failed_len_at}
use Rattle.mse_outside.proofs.memory_sink.find_cut.Given as goal

-- no pair before this place has the number
abbrev pub invariant-loop-number : goal.invariant-loop-number
invariant-loop-number l = failed_len_at (drop l.number-index l.failing) l.call ≡ failed_len_at l.failing l.call
