use Rattle.std.proofs.Common.{◌+◌, length}
use Rattle.mse_base.proofs.Unions.{IsUnionSoFar}
use Rattle.mse_base.proofs.combine.union_of.Given as goal

abbrev pub invariant-heads : goal.invariant-heads
invariant-heads l = IsUnionSoFar l.left l.right l.heads.left.now l.heads.right.now l.spans.spans

abbrev pub decreases-heads : goal.decreases-heads
decreases-heads l = length l.heads.left.now + length l.heads.right.now
