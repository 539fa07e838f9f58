use Rattle.std.proofs.Common.{◌≡◌, length, is_some}
use Rattle.bmff_boxes.specs.Rows.{row_of}
use Rattle.bmff_boxes.proofs.row.is_row.Given as goal

abbrev pub invariant-boxes : goal.invariant-boxes
invariant-boxes l = is_some (row_of l.walk.rest.now) ≡ is_some (row_of l.bytes)

abbrev pub decreases-boxes : goal.decreases-boxes
decreases-boxes l = length l.walk.rest.now
