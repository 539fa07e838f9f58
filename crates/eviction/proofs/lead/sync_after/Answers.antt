use Rattle.std.proofs.Common.{◌∙◌, sym, ap, slice_get}
use Rattle.track_store.specs.State.{states_of}
use Rattle.eviction.specs.Evicting.{first_of, frames_of}
use Rattle.eviction.specs.Steps.{times_at}
use Rattle.eviction.proofs.Places.{after_tick, none_past}
use Rattle.eviction.proofs.lead.sync_after.Goals as goal

pub returns-in-Some : goal.returns-in-Some
returns-in-Some g c =
    let ts = states_of g.S.FrameStore.frames c.args.tracks.now.items in
    c.sync_from.ensures ∙ ap first_of (after_tick c.args.t c.in-Some.u (times_at c.args.lead ts) (sym c.in-Some.ensures.value))

pub returns-in-None : goal.returns-in-None
returns-in-None g c =
    let ts = states_of g.S.FrameStore.frames c.args.tracks.now.items in
    none_past c.args.t (frames_of (slice_get ts c.args.lead)) c.highest_in_range-highest.result c.highest_in_range-highest.ensures.value c.highest_in_range-highest.ensures.is_tick (sym c.in-None.ensures.value) c.in-None.ensures.is_tick
