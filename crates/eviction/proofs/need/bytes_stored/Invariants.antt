use Rattle.std.proofs.Common.{◌≡◌, ◌≤◌, ◌*◌, take}
use Rattle.track_store.specs.Kept.{bytes_in}
use Rattle.track_store.specs.State.{states_of}
use Rattle.eviction.proofs.need.bytes_stored.Given as goal

abbrev pub invariant-loop-i : goal.invariant-loop-i
invariant-loop-i g l = record {
  sum : l.total ≡ bytes_in (take l.i (states_of g.S.FrameStore.frames l.tracks.items));
  small : l.total ≤ 4611686018427387904 * l.i;
}
