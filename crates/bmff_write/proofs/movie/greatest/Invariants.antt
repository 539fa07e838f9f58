use Rattle.std.proofs.Common.{◌≡◌, take}
use Rattle.bmff_write.specs.Movie.{greatest_number}
use Rattle.bmff_write.proofs.movie.greatest.Given as goal

-- the greatest number of the tracks so far
abbrev pub invariant-loop-track : goal.invariant-loop-track
invariant-loop-track l = l.greatest ≡ greatest_number (take l.track-index l.tracks)
