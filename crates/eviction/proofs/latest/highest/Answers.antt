use Rattle.std.proofs.Common.{slice_get}
use Rattle.track_store.specs.State.{states_of}
use Rattle.eviction.specs.Evicting.{frames_of}
use Rattle.eviction.specs.Steps.{times_at}
use Rattle.eviction.proofs.Times.{all_along}
use Rattle.eviction.proofs.Places.{highest_is}
use Rattle.eviction.proofs.latest.highest.Goals as goal

pub returns-in-None : goal.returns-in-None
returns-in-None g c =
    let ts = states_of g.S.FrameStore.frames c.args.tracks.now.items in
    rw c.unwrap_or.ensures (all_along _ _ (times_at c.args.lead ts) (λ u h _. h) (highest_is c.args.next.now c.args.low (frames_of (slice_get ts c.args.lead)) c.highest_start.result c.highest_start.ensures c.requires))
