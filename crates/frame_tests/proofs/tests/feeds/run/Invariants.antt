use Rattle.std.proofs.Common.{◌≤ℤ◌, pos}
use Rattle.track_store.specs.State.{states_of}
use Rattle.track_store.specs.Kept.{AreSoundAndCountable}
use Rattle.frame_tests.proofs.tests.feeds.run.Given as goal

abbrev pub invariant-loop-i : goal.invariant-loop-i
invariant-loop-i g l = record {
  sound : AreSoundAndCountable (states_of g.S.FrameStore.frames l.tracks.items);
  window_start : pos 0 ≤ℤ l.settings.window_start;
}
