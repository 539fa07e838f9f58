use Rattle.std.proofs.Common.{◌≡◌, ◌+◌, ◌-◌, ◌≤◌, length, take, map}
use Rattle.mse_base.specs.Rows.{row_items}
use Rattle.block_list.specs.BlockPlaces.{rank, IsPlace}
use Rattle.mse_base.specs.Bridging.{bridged_ranges}
use Rattle.track_index.specs.Order.{span_of}
use Rattle.track_index.proofs.repair.remake.Given as goal

abbrev pub invariant-loop-place : goal.invariant-loop-place
invariant-loop-place l = record {
  place : IsPlace l.order.rows l.place;
  spans : l.ranges.spans ≡ bridged_ranges l.gap (map span_of (take (rank l.order.rows l.place) (row_items l.order.rows)));
  room : l.fn.ranges.spare + length l.fn.ranges.spans ≤ l.ranges.spare + length l.ranges.spans;
}

abbrev pub decreases-loop-place : goal.decreases-loop-place
decreases-loop-place l = length (row_items l.order.rows) - rank l.order.rows l.place
