use Rattle.std.proofs.Common.{◌∙◌, sym}
use Rattle.track_store.specs.State.{states_of}
use Rattle.eviction.specs.Steps.{times_at}
use Rattle.eviction.proofs.Between.{first_between, none_between, nothing_between}
use Rattle.eviction.proofs.Evictions.{rising_at}
use Rattle.eviction.proofs.latest.sync_between.Goals as goal

pub returns-then-is_below : goal.returns-then-is_below
returns-then-is_below g c =
    let ts = states_of g.S.FrameStore.frames c.args.tracks.now.items in
    first_between c.args.after c.args.next.now (times_at c.args.lead ts) c.in-Some.t (sym c.sync_after.ensures ∙ c.in-Some.is) (sym c.is_below.ensures ∙ c.if-is_below.true)

pub returns-else-is_below : goal.returns-else-is_below
returns-else-is_below g c =
    let ts = states_of g.S.FrameStore.frames c.args.tracks.now.items in
    none_between c.args.after c.args.next.now (times_at c.args.lead ts) c.in-Some.t (rising_at c.args.lead ts) (sym c.sync_after.ensures ∙ c.in-Some.is) (sym c.is_below.ensures ∙ c.if-is_below.false)

pub returns-in-None : goal.returns-in-None
returns-in-None g c =
    let ts = states_of g.S.FrameStore.frames c.args.tracks.now.items in
    nothing_between c.args.after c.args.next.now (times_at c.args.lead ts) (sym c.sync_after.ensures ∙ c.in-None.is)
