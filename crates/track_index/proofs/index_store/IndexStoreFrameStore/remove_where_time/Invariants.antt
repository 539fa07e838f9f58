use Rattle.std.proofs.Common.{◌≡◌, ◌≤◌, ◌≤ℤ◌, false, length}
use Rattle.track_store.specs.Frames.{frames_left, is_within}
use Rattle.track_index.proofs.Nexts.{HasNoneBeforeKey}
use Rattle.track_index.proofs.index_store.IndexStoreFrameStore.remove_where_time.Given as goal

abbrev pub invariant-loop-next : goal.invariant-loop-next
invariant-loop-next l = record {
  frames : frames_left false (is_within l.fn.from l.to l.below) l.self.frames ≡ frames_left false (is_within l.fn.from l.to l.below) l.fn.self.frames;
  late : l.fn.from ≤ℤ l.key.mark;
  passed : HasNoneBeforeKey l.fn.from l.to l.below l.key l.self.frames;
  spare : l.fn.self.spare ≤ l.self.spare;
  gap : l.self.gap ≡ l.fn.self.gap;
}

abbrev pub decreases-loop-next : goal.decreases-loop-next
decreases-loop-next l = length l.self.frames
