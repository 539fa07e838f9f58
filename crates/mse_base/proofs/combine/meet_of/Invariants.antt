use Rattle.std.proofs.Common.{◌+◌, length}
use Rattle.mse_base.proofs.Overlaps.{IsIntersectionSoFar}
use Rattle.mse_base.proofs.combine.meet_of.Given as goal

abbrev pub invariant-heads : goal.invariant-heads
invariant-heads l = IsIntersectionSoFar l.left l.right l.xs l.ys l.spans.items

abbrev pub decreases-heads : goal.decreases-heads
decreases-heads l = length l.xs + length l.ys
