use Rattle.std.proofs.Common.{◌≡◌, ◌++◌, replicate}
use Rattle.bmff_write.proofs.boxes.put_zeros.Given as goal

-- as many bytes as there were rounds
abbrev pub invariant-loop-i : goal.invariant-loop-i
invariant-loop-i l = l.out.items ≡ l.fn.out.items ++ replicate l._i 0
