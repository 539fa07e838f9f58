use Rattle.std.proofs.Common.{◌≡◌, ◌∙◌, ap, sym, set, slice_get, Some, None}
use Rattle.std.specs.Option.{option_copied_mut}
use Rattle.track_store.specs.State.{TrackState, states_of}
use Rattle.track_buffers.specs.Initialized.{track_with_partner}
use Rattle.track_buffers.proofs.OneTrack.{edited, not_there}
use Rattle.track_buffers.proofs.Stores.{stores_set}
use Rattle.track_buffers.proofs.partners.renew_by.Goals as goal

pub returns-in-Some-clause-states : goal.returns-in-Some-clause-states
returns-in-Some-clause-states g c =
    let ts = c.args.tracks.now.items in
    let at : slice_get ts c.args.i ≡ Some c.in-Some.track.now = sym c.get_mut.ensures.value ∙ ap option_copied_mut c.in-Some.is in
    edited g.S.FrameStore.frames (λ (t : TrackState). track_with_partner t (Some c.args.partner.now)) ts c.args.i c.in-Some.track.now c.renew.new.track at c.renew.ensures.state

pub returns-in-Some-clause-stores : goal.returns-in-Some-clause-stores
returns-in-Some-clause-stores g c =
    let ts = c.args.tracks.now.items in
    let at : slice_get ts c.args.i ≡ Some c.in-Some.track.now = sym c.get_mut.ensures.value ∙ ap option_copied_mut c.in-Some.is in
    stores_set ts c.args.i c.in-Some.track.now c.renew.new.track at c.renew.ensures.store

pub returns-in-None-clause-states : goal.returns-in-None-clause-states
returns-in-None-clause-states g c =
    let ts = c.args.tracks.now.items in
    let at : slice_get ts c.args.i ≡ None = sym c.get_mut.ensures.value ∙ ap option_copied_mut c.in-None.is in
    let ss = states_of {S = g.row.S.Denot} g.S.FrameStore.frames ts in
    not_there g.S.FrameStore.frames (λ (t : TrackState). ss ≡ set ss c.args.i (track_with_partner t (Some c.args.partner.now))) ts c.args.i at
