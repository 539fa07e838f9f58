use Rattle.std.proofs.Common.{◌≡◌, take}
use Rattle.std.specs.List.{flat_map}
use Rattle.mse_base.specs.Moments.{greatest}
use Rattle.track_store.specs.Frames.{ends}
use Rattle.track_store.specs.State.{states_of}
use Rattle.track_buffers.proofs.looks.highest_end.Given as goal

abbrev pub invariant-loop-i : goal.invariant-loop-i
invariant-loop-i g l = l.best ≡ greatest (flat_map (λ t. ends t.frames) (take l.i (states_of g.S.FrameStore.frames l.tracks.items)))
