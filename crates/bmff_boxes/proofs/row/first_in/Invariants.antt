use Rattle.std.proofs.Common.{◌≡◌, length, IsSome}
use Rattle.bmff_boxes.specs.Rows.{row_of, boxes_in, first_of}
use Rattle.bmff_boxes.proofs.row.first_in.Given as goal

abbrev pub invariant-boxes : goal.invariant-boxes
invariant-boxes l = record {
  row : IsSome (row_of l.walk.rest.now);
  same : first_of l.kind (boxes_in l.walk.rest.now) ≡ first_of l.kind (boxes_in l.bytes);
}

abbrev pub decreases-boxes : goal.decreases-boxes
decreases-boxes l = length l.walk.rest.now
