use Rattle.std.proofs.Common.{◌≡◌, None, find, take}
use Rattle.track_store.specs.State.{states_of}
use Rattle.mse_base.specs.Moments.{is_video}
use Rattle.eviction.proofs.lead.lead_of.Given as goal

abbrev pub invariant-loop-i : goal.invariant-loop-i
invariant-loop-i g l = find (λ t. is_video t.kind) (take l.i (states_of g.S.FrameStore.frames l.tracks.items)) ≡ None
