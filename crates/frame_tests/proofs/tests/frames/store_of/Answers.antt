use Rattle.std.proofs.Common.{arith}
use Rattle.range_removal.proofs.Fixture.{fixture_push}
use Rattle.frame_tests.proofs.tests.frames.store_of.Goals as goal

pub loop-i-preserved : goal.loop-i-preserved
loop-i-preserved g c = record {
  frames = rw c.add.ensures.frames (fixture_push c.loop-i.i (g.S.FrameStore.frames c.loop-i.store) c.frame_at-frame.result c.loop-i.invariant.frames c.frame_at-frame.ensures.serial c.frame_at-frame.ensures.bytes);
  spare = omega (arith, c.add.ensures.spare, c.loop-i.invariant.spare);
}
