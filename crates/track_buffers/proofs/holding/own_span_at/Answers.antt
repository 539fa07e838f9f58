use Rattle.std.proofs.Common.{◌≡◌, ◌∙◌, Some, None, slice_get, sym, ap}
use Rattle.std.specs.Option.{option_copied}
use Rattle.std.proofs.lemmas.Option.{slice_get-map}
use Rattle.track_store.specs.declared.tracks.Track.{Track}
use Rattle.track_store.specs.Frames.{ranges_of}
use Rattle.track_buffers.proofs.holding.own_span_at.Goals as goal

pub returns-in-Some : goal.returns-in-Some
returns-in-Some g c =
    let ts = c.args.tracks.now.items in
    let ranged = λ (t : Track g.row.S.Denot). ranges_of (g.S.FrameStore.gap t.store) (g.S.FrameStore.frames t.store) in
    let at : slice_get ts c.args.i ≡ Some c.in-Some.track.now = sym c.get.ensures ∙ ap option_copied c.in-Some.is in
    rw (slice_get-map ranged ts c.args.i, at) c.span_holding.ensures

pub returns-in-None : goal.returns-in-None
returns-in-None g c =
    let ts = c.args.tracks.now.items in
    let ranged = λ (t : Track g.row.S.Denot). ranges_of (g.S.FrameStore.gap t.store) (g.S.FrameStore.frames t.store) in
    let at : slice_get ts c.args.i ≡ None = sym c.get.ensures ∙ ap option_copied c.in-None.is in
    rw (slice_get-map ranged ts c.args.i, at) tt
