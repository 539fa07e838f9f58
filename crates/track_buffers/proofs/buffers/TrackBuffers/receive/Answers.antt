use Rattle.track_store.specs.State.{states_of}
use Rattle.track_buffers.proofs.KeptTracks.{ends_told}
use Rattle.track_buffers.proofs.Durations.{not_after_told}
use Rattle.track_buffers.proofs.Stores.{room_by_stores, state_there}
use Rattle.track_buffers.proofs.buffers.TrackBuffers.receive.Goals as goal

pub returns-in-None-clause-within_duration : goal.returns-in-None-clause-within_duration
returns-in-None-clause-within_duration g c =
    let ts = states_of g.S.FrameStore.frames c.self.inside.tracks.items in
    rw (← c.self.view_is) (λ h. c.take_tracks.ensures.within_duration c.segment_effect-effect.result.duration (ends_told c.args.presentation.now c.args.duration c.segment_effect-effect.result ts c.segment_effect-effect.ensures h))

pub returns-in-Some-clause-no_fall : goal.returns-in-Some-clause-no_fall
returns-in-Some-clause-no_fall g c = not_after_told c.args.presentation.now c.args.duration c.segment_effect-effect.result c.segment_effect-effect.ensures

pub returns-in-None-clause-no_fall : goal.returns-in-None-clause-no_fall
returns-in-None-clause-no_fall g c = not_after_told c.args.presentation.now c.args.duration c.segment_effect-effect.result c.segment_effect-effect.ensures

pub returns-in-Some-clause-within_duration : goal.returns-in-Some-clause-within_duration
returns-in-Some-clause-within_duration g c = ends_told c.args.presentation.now c.args.duration c.segment_effect-effect.result c.args.self.now.media.tracks c.segment_effect-effect.ensures

pub returns-in-None-clause-room : goal.returns-in-None-clause-room
returns-in-None-clause-room g c =
    let ts = c.self.inside.tracks.items in
    rw (← c.self.view_is) (λ later. room_by_stores g.S.FrameStore.spare ts c.take_tracks.new.tracks.items (c.take_tracks.ensures.stores (state_there g.S.FrameStore.frames ts c.len-is_first.result c.len-is_first.ensures later)))
