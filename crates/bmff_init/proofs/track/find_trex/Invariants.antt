use Rattle.std.proofs.Common.{◌≡◌, length, IsSome}
use lib.Chars.{codes}
use Rattle.bmff_boxes.specs.Rows.{row_of, boxes_in, all_of}
use Rattle.bmff_init.specs.Tracks.{trex_of}
use Rattle.bmff_init.proofs.track.find_trex.Given as goal

abbrev pub invariant-boxes : goal.invariant-boxes
invariant-boxes l = record {
  row : IsSome (row_of l.walk.rest.now);
  same : trex_of l.track (all_of (codes "trex") (boxes_in l.walk.rest.now)) ≡ trex_of l.track (all_of (codes "trex") (boxes_in l.mvex));
}

abbrev pub decreases-boxes : goal.decreases-boxes
decreases-boxes l = length l.walk.rest.now
