use Rattle.std.proofs.Common.{◌≡◌, ◌+◌, ◌*◌, ◌≤◌, ◌^◌, length, drop}
use Rattle.bmff_write.specs.Movie.{traks_bytes}
use Rattle.bmff_write.proofs.movie.traks_len.Given as goal

-- the bytes of the tracks so far, and those of the tracks that are left, are all
abbrev pub invariant-loop-i : goal.invariant-loop-i
invariant-loop-i l = record {
  sum : l.len + length (traks_bytes (drop l.i l.tracks) (drop l.i l.stsds)) ≡ length (traks_bytes l.tracks l.stsds);
  limit : l.len ≤ l.i * 2 ^ 17;
}
