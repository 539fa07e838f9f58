use Rattle.std.proofs.Common.{◌≤ℤ◌, pos}
use Rattle.track_store.specs.State.{states_of}
use Rattle.track_store.specs.Kept.{AreSoundAndCountable}
use Rattle.frame_tests.proofs.tests.media.feed_all.Given as goal

abbrev pub invariant-loop-sample : goal.invariant-loop-sample
invariant-loop-sample g l = record {
  sound : AreSoundAndCountable (states_of g.S.FrameStore.frames l.tracks.items);
  window_start : pos 0 ≤ℤ l.settings.window_start;
}
