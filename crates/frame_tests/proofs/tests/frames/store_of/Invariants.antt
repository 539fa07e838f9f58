use Rattle.std.proofs.Common.{◌+◌, ◌≤◌, length}
use Rattle.range_removal.proofs.Fixture.{IsFixture}
use Rattle.frame_tests.proofs.tests.frames.store_of.Given as goal

abbrev pub invariant-loop-i : goal.invariant-loop-i
invariant-loop-i g l = record {
  frames : IsFixture l.i (g.S.FrameStore.frames l.store);
  spare : length l.samples ≤ g.S.FrameStore.spare l.store + l.i;
}
