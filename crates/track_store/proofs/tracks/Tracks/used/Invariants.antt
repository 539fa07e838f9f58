use Rattle.std.proofs.Common.{◌≡◌, take}
use Rattle.track_store.specs.Kept.{bytes_in}
use Rattle.track_store.specs.State.{states_of}
use Rattle.track_store.proofs.tracks.Tracks.used.Given as goal

abbrev pub invariant-loop-i : goal.invariant-loop-i
invariant-loop-i g l = l.total ≡ bytes_in (take l.i (states_of g.S.FrameStore.frames l.self.items))
