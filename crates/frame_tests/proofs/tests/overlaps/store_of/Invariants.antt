use Rattle.std.proofs.Common.{◌≡◌, ◌+◌, ◌<◌, ◌≤◌, length}
use Rattle.std.specs.List.{AllByRecursion}
use Rattle.track_store.specs.Frames.{bytes_of}
use Rattle.frame_tests.proofs.tests.overlaps.store_of.Given as goal

abbrev pub invariant-loop-i : goal.invariant-loop-i
invariant-loop-i g l = record {
  below : AllByRecursion (λ f. f.serial < l.first + l.i) (g.S.FrameStore.frames l.store);
  empty : bytes_of (g.S.FrameStore.frames l.store) ≡ 0;
  spare : length l.intervals ≤ g.S.FrameStore.spare l.store + l.i;
}
