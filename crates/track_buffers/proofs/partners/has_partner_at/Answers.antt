use Rattle.std.proofs.Common.{◌≡◌, ◌∙◌, ap, sym, slice_get, Some, None, Option, option_copied}
use Rattle.std.proofs.lemmas.Option.{slice_get-map}
use Rattle.mse_base.specs.declared.track.TrackInfo.{TrackInfo}
use Rattle.track_store.specs.State.{state_of}
use Rattle.track_buffers.specs.Initialized.{is_partner}
use Rattle.track_buffers.proofs.partners.has_partner_at.Goals as goal

pub returns-in-Some : goal.returns-in-Some
returns-in-Some g c =
    let st = state_of {S = g.row.S.Denot} g.S.FrameStore.frames in
    let ts = c.args.tracks.now.items in
    let at : slice_get ts c.args.i ≡ Some c.in-Some.track.now = sym c.get.ensures ∙ ap option_copied c.in-Some.is in
    let own = rw (slice_get-map st ts c.args.i, at) at c.partner_at.ensures in
    rw (slice_get-map st ts c.args.i, at) (c.is_partner.ensures ∙ ap (λ (o : Option TrackInfo). is_partner c.args.pending (st c.in-Some.track.now) o) own)

pub returns-in-None : goal.returns-in-None
returns-in-None g c =
    let st = state_of {S = g.row.S.Denot} g.S.FrameStore.frames in
    let ts = c.args.tracks.now.items in
    let at : slice_get ts c.args.i ≡ None = sym c.get.ensures ∙ ap option_copied c.in-None.is in
    rw (slice_get-map st ts c.args.i, at) tt
