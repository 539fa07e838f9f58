use Rattle.std.proofs.Common.{◌≡◌, ◌∙◌, ℤ, pos, ◌≤ℤ◌, map, Some, None, slice_get, sym, ap}
use Rattle.std.specs.Option.{option_copied, option_map}
use Rattle.std.proofs.lemmas.Option.{slice_get-map}
use Rattle.track_store.specs.declared.tracks.Track.{Track}
use Rattle.track_store.specs.Frames.{ranges_of}
use Rattle.track_buffers.specs.Buffered.{with_end}
use Rattle.track_buffers.proofs.SharedRanges.{all_here}
use Rattle.track_buffers.proofs.sought.span_at.Goals as goal

pub span_of_track-requires : goal.span_of_track-requires
span_of_track-requires g c =
    let ts = c.args.tracks.now.items in
    let own = λ (t : Track g.row.S.Denot). g.S.FrameStore.gap t.store in
    let at : slice_get ts c.args.i ≡ Some c.in-Some.track.now = sym c.get.ensures ∙ ap option_copied c.in-Some.is in
    all_here (λ (z : ℤ). pos 0 ≤ℤ z) (map own ts) c.args.i (own c.in-Some.track.now) c.requires (slice_get-map own ts c.args.i ∙ ap (option_map own) at)

pub returns-in-Some : goal.returns-in-Some
returns-in-Some g c =
    let ts = c.args.tracks.now.items in
    let ranged = λ (t : Track g.row.S.Denot). ranges_of (g.S.FrameStore.gap t.store) (g.S.FrameStore.frames t.store) in
    let at : slice_get ts c.args.i ≡ Some c.in-Some.track.now = sym c.get.ensures ∙ ap option_copied c.in-Some.is in
    rw (slice_get-map (with_end c.args.end.now) (map ranged ts) c.args.i, slice_get-map ranged ts c.args.i, at) c.span_of_track.ensures

pub returns-in-None : goal.returns-in-None
returns-in-None g c =
    let ts = c.args.tracks.now.items in
    let ranged = λ (t : Track g.row.S.Denot). ranges_of (g.S.FrameStore.gap t.store) (g.S.FrameStore.frames t.store) in
    let at : slice_get ts c.args.i ≡ None = sym c.get.ensures ∙ ap option_copied c.in-None.is in
    rw (slice_get-map (with_end c.args.end.now) (map ranged ts) c.args.i, slice_get-map ranged ts c.args.i, at) tt
