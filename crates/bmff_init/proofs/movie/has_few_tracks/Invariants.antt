use Rattle.std.proofs.Common.{◌≡◌, ◌+◌, ◌≤◌, length}
use lib.Chars.{codes}
use Rattle.bmff_boxes.specs.Rows.{all_of}
use Rattle.bmff_init.proofs.movie.has_few_tracks.Given as goal

abbrev pub invariant-boxes : goal.invariant-boxes
invariant-boxes l = record {
  counted : l.count + length (all_of (codes "trak") l.movie) ≡ length (all_of (codes "trak") l.initial.movie);
  few : l.count ≤ 64;
}

abbrev pub decreases-boxes : goal.decreases-boxes
decreases-boxes l = length l.movie
