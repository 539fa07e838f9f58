use Rattle.std.proofs.Common.{◌≡◌, ◌∙◌, ap, sym, set, slice_get, Some, None}
use Rattle.std.specs.Option.{option_copied_mut}
use Rattle.range_removal.proofs.Rooms.{keeps_set, gaps_set}
use Rattle.track_store.specs.State.{TrackState, states_of}
use Rattle.track_buffers.specs.Frames.{unset_track}
use Rattle.track_buffers.proofs.OneTrack.{edited, not_there}
use Rattle.track_buffers.proofs.frames.unset_at.Goals as goal

pub returns-in-Some-clause-states : goal.returns-in-Some-clause-states
returns-in-Some-clause-states g c =
    let ts = c.args.tracks.now.items in
    let at : slice_get ts c.args.i ≡ Some c.in-Some.track.now = sym c.get_mut.ensures.value ∙ ap option_copied_mut c.in-Some.is in
    edited g.S.FrameStore.frames unset_track ts c.args.i c.in-Some.track.now c.unset.new.track at c.unset.ensures.state

pub returns-in-Some-clause-no_room_lost : goal.returns-in-Some-clause-no_room_lost
returns-in-Some-clause-no_room_lost g c =
    let ts = c.args.tracks.now.items in
    let at : slice_get ts c.args.i ≡ Some c.in-Some.track.now = sym c.get_mut.ensures.value ∙ ap option_copied_mut c.in-Some.is in
    keeps_set g.S.FrameStore.spare ts c.args.i c.in-Some.track.now c.unset.new.track at c.unset.ensures.no_room_lost

pub returns-in-Some-clause-gaps : goal.returns-in-Some-clause-gaps
returns-in-Some-clause-gaps g c =
    let ts = c.args.tracks.now.items in
    let at : slice_get ts c.args.i ≡ Some c.in-Some.track.now = sym c.get_mut.ensures.value ∙ ap option_copied_mut c.in-Some.is in
    gaps_set g.S.FrameStore.gap ts c.args.i c.in-Some.track.now c.unset.new.track at c.unset.ensures.gap

pub returns-in-None-clause-states : goal.returns-in-None-clause-states
returns-in-None-clause-states g c =
    let ts = c.args.tracks.now.items in
    let at : slice_get ts c.args.i ≡ None = sym c.get_mut.ensures.value ∙ ap option_copied_mut c.in-None.is in
    let ss = states_of {S = g.row.S.Denot} g.S.FrameStore.frames ts in
    not_there g.S.FrameStore.frames (λ (t : TrackState). ss ≡ set ss c.args.i (unset_track t)) ts c.args.i at
