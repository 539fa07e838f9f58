use Rattle.std.proofs.Common.{◌≡◌, ◌+◌, ◌≤◌, length, drop, map}
use Rattle.mse_base.specs.Rows.{row_items}
use Rattle.block_list.specs.BlockPlaces.{rank, IsPlace}
use Rattle.mse_base.specs.Bridging.{IsRanges}
use Rattle.track_store.specs.Frames.{intervals}
use Rattle.track_index.specs.Order.{span_of}
use Rattle.track_index.specs.Repair.{AreBetween}
use Rattle.track_index.specs.Runs.{frames_in}
use Rattle.track_index.proofs.repair.mend_run.Given as goal

abbrev pub invariant-loop-n : goal.invariant-loop-n
invariant-loop-n l = record {
  place : IsPlace l.frames.rows l.place;
  next : rank l.frames.rows l.place ≡ rank l.frames.rows l.run.from + l.n;
  ranges : IsRanges l.gap l.ranges.spans;
  room : l.fn.ranges.spare + length l.fn.ranges.spans ≤ l.ranges.spare + length l.ranges.spans;
  between : AreBetween l.gap (map span_of (row_items l.order.rows)) (intervals (drop l.n (frames_in l.frames.rows l.run))) l.ranges.spans;
}
