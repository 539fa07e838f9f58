use Rattle.std.proofs.Common.{◌≡◌, ◌+◌, ◌≤◌, length, take}
use Rattle.mse_base.specs.Bridging.{IsRanges}
use Rattle.track_store.specs.Frames.{ranges_of}
use Rattle.track_store.proofs.list_store.rejoin.Given as goal

abbrev pub invariant-loop-stored : goal.invariant-loop-stored
invariant-loop-stored l = record {
  spans : l.ranges.spans ≡ ranges_of l.gap (take l.stored-index l.frames);
  ranges : IsRanges l.gap l.ranges.spans;
  room : l.fn.ranges.spare + length l.fn.ranges.spans ≤ l.ranges.spare + length l.ranges.spans;
  enough : length l.frames ≤ l.ranges.spare + l.stored-index;
}
