use Rattle.std.proofs.Common.{◌≡◌, take}
use Rattle.remux.proofs.classic.pieces_in.Given as goal

-- the pieces so far
abbrev pub invariant-loop-i : goal.invariant-loop-i
invariant-loop-i l = l.pieces.items ≡ take l.i l.file
