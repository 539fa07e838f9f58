use Rattle.std.proofs.Common.{◌≡◌, ◌++◌, take}
use Rattle.std.specs.List.{flat_map}
use Rattle.bmff_write.specs.Movie.{trex_bytes}
use Rattle.bmff_write.proofs.movie.put_trexes.Given as goal

-- the boxes of the tracks so far were appended
abbrev pub invariant-loop-track : goal.invariant-loop-track
invariant-loop-track l = l.out.items ≡ l.fn.out.items ++ flat_map trex_bytes (take l.track-index l.tracks)
