use Rattle.std.proofs.Common.{◌≡◌, map}
use Rattle.std.specs.List.{range_with_len}
use Rattle.bmff_write.specs.Made.{made_sample}
use Rattle.bmff_write.proofs.made.samples.Given as goal

-- the samples so far
abbrev pub invariant-loop-i : goal.invariant-loop-i
invariant-loop-i l = l.samples.items ≡ map (made_sample l.j) (range_with_len 0 l.i)
