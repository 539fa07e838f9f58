use Rattle.std.proofs.Common.{◌≡◌, ◌++◌, drop}
use Rattle.bmff_write.specs.Movie.{traks_bytes}
use Rattle.bmff_write.proofs.movie.put_traks.Given as goal

-- what was appended, with the tracks that are left, is all
abbrev pub invariant-loop-i : goal.invariant-loop-i
invariant-loop-i l = l.out.items ++ traks_bytes (drop l.i l.tracks) (drop l.i l.stsds) ≡ l.fn.out.items ++ traks_bytes l.tracks l.stsds
