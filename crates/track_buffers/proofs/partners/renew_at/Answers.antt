use Rattle.std.proofs.Common.{filter, slice_get, Some, None}
use Rattle.track_store.specs.State.{states_of}
use Rattle.track_buffers.specs.Initialized.{is_media_track}
use Rattle.track_buffers.proofs.OneTrack.{renewed_some, renewed_none}
use Rattle.track_buffers.proofs.partners.renew_at.Goals as goal

pub returns-in-Some-clause-states : goal.returns-in-Some-clause-states
returns-in-Some-clause-states g c =
    let F = g.S.FrameStore.frames in
    let ts = states_of F c.args.tracks.now.items in
    renewed_some ts (states_of F c.renew_by.new.tracks.items) (filter is_media_track c.args.news.now) c.args.i (Some c.in-Some.partner.now) (slice_get ts c.args.i) (rw c.in-Some.is at c.partner_at.ensures) c.renew_by.ensures.states

pub returns-in-None-clause-states : goal.returns-in-None-clause-states
returns-in-None-clause-states g c =
    let F = g.S.FrameStore.frames in
    let ts = states_of F c.args.tracks.now.items in
    renewed_some ts ts (filter is_media_track c.args.news.now) c.args.i None (slice_get ts c.args.i) (rw c.in-None.is at c.partner_at.ensures) (renewed_none ts c.args.i)
