use Rattle.std.proofs.Common.{◌≡◌, ◌∙◌, ◌==◌, ℕ, ap, sym, cond, filter, slice_get, Some, None, option_copied}
use Rattle.std.specs.List.{find}
use Rattle.std.proofs.lemmas.Option.{slice_get-map}
use Rattle.track_store.specs.State.{state_of}
use Rattle.track_buffers.specs.Initialized.{is_media_track, is_of_kind, is_numbered}
use Rattle.track_buffers.proofs.partners.partner_at.Goals as goal

pub returns-in-Some : goal.returns-in-Some
returns-in-Some g c =
    let st = state_of {S = g.row.S.Denot} g.S.FrameStore.frames in
    let ts = c.args.tracks.now.items in
    let at : slice_get ts c.args.i ≡ Some c.in-Some.track.now = sym c.get.ensures ∙ ap option_copied c.in-Some.is in
    let t = c.in-Some.track.now in
    let news = filter is_media_track c.args.news.now in
    rw (slice_get-map st ts c.args.i, at) (c.find_partner.ensures ∙ ap (λ (n : ℕ). cond (n == 1) (find (is_of_kind t.kind) news) (find (is_numbered t.kind t.id) news)) c.count_held-alone.ensures)

pub returns-in-None : goal.returns-in-None
returns-in-None g c =
    let st = state_of {S = g.row.S.Denot} g.S.FrameStore.frames in
    let ts = c.args.tracks.now.items in
    let at : slice_get ts c.args.i ≡ None = sym c.get.ensures ∙ ap option_copied c.in-None.is in
    rw (slice_get-map st ts c.args.i, at) tt
