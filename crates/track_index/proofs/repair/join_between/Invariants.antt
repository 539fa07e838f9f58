use Rattle.std.proofs.Common.{◌≡◌, ◌+◌, ◌-◌, length, take}
use Rattle.mse_base.specs.Rows.{row_items}
use Rattle.block_list.specs.BlockPlaces.{rank, IsPlace}
use Rattle.mse_base.specs.Bridging.{IsRanges}
use Rattle.track_index.specs.Repair.{AreGrownBy, HasTicksBetween}
use Rattle.track_index.proofs.repair.join_between.Given as goal

abbrev pub invariant-loop-place : goal.invariant-loop-place
invariant-loop-place l = record {
  place : IsPlace l.order.rows l.place;
  ranges : IsRanges l.gap l.ranges.spans;
  room : l.ranges.spare + length l.ranges.spans ≡ l.fn.ranges.spare + length l.fn.ranges.spans;
  grown : AreGrownBy l.gap (row_items l.order.rows) l.fn.ranges.spans l.ranges.spans;
  between : HasTicksBetween l.gap l.key l.high (take (rank l.order.rows l.place) (row_items l.order.rows)) l.ranges.spans;
}

abbrev pub decreases-loop-place : goal.decreases-loop-place
decreases-loop-place l = length (row_items l.order.rows) - rank l.order.rows l.place
