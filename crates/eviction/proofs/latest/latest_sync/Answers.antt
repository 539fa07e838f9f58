use Rattle.std.proofs.Common.{sym}
use Rattle.track_store.specs.State.{states_of}
use Rattle.eviction.specs.Steps.{times_at}
use Rattle.eviction.proofs.Between.{found_between, latest_between}
use Rattle.eviction.proofs.Evictions.{rising_at}
use Rattle.eviction.proofs.latest.latest_sync.Goals as goal

pub latest_from-requires-clause-has : goal.latest_from-requires-clause-has
latest_from-requires-clause-has g c =
    let ts = states_of g.S.FrameStore.frames c.args.tracks.now.items in
    (found_between c.args.after c.args.next.now (times_at c.args.lead ts) c.in-Some.low (rising_at c.args.lead ts) (sym c.in-Some.ensures)).has

pub latest_from-requires-clause-below : goal.latest_from-requires-clause-below
latest_from-requires-clause-below g c =
    let ts = states_of g.S.FrameStore.frames c.args.tracks.now.items in
    (found_between c.args.after c.args.next.now (times_at c.args.lead ts) c.in-Some.low (rising_at c.args.lead ts) (sym c.in-Some.ensures)).below

pub returns-in-Some : goal.returns-in-Some
returns-in-Some g c =
    let ts = states_of g.S.FrameStore.frames c.args.tracks.now.items in
    latest_between c.args.after c.args.next.now (times_at c.args.lead ts) c.in-Some.low c.latest_from.result (rising_at c.args.lead ts) (sym c.in-Some.ensures) c.latest_from.ensures.latest c.latest_from.ensures.not_earlier
