use Rattle.std.proofs.Common.{◌≡◌, ◌++◌, take}
use Rattle.mse_base.proofs.span_block.Block.append.Given as goal

abbrev pub invariant-loop-x : goal.invariant-loop-x
invariant-loop-x l = l.self ≡ l.fn.self ++ take l.x-index l.rest
