use Rattle.std.proofs.Common.{◌∙◌, List, Some, None, refl, ap}
use Rattle.std.specs.Prelude.{slice_get}
use Rattle.track_store.specs.State.{TrackState, states_of}
use Rattle.frame_rules.specs.Place.{placement_in_track}
use Rattle.frame_rules.proofs.AllTracks.{by_found, ready_reset, states_marked}
use Rattle.frame_rules.proofs.PlainFrames.{in_track_same}
use Rattle.frame_rules.proofs.Rooms.{stores_same, stores_reset}
use Rattle.frame_rules.proofs.SoundPlaced.{timing_here}
use Rattle.frame_rules.proofs.processing.place_by_timing.Goals as goal

pub place_in_track-requires-clause-ready : goal.place_in_track-requires-clause-ready
place_in_track-requires-clause-ready g c = ready_reset g.S.FrameStore.frames g.S.FrameStore.spare c.args.index c.args.frame c.in-Some.timing c.args.tracks.now.items c.reset_where_due.new.tracks.items c.reset_where_due.ensures.items c.requires

pub place_in_track-requires-clause-timed : goal.place_in_track-requires-clause-timed
place_in_track-requires-clause-timed g c = timing_here c.args.tracks.now.items c.args.settings.now c.args.index c.args.frame c.in-Some.timing c.requires.in_range c.in-Some.ensures

pub returns-in-Some-clause-placement : goal.returns-in-Some-clause-placement
returns-in-Some-clause-placement g c =
    let w = c.in-Some.timing in
    let F = g.S.FrameStore.frames in
    let reset = states_of F c.reset_where_due.new.tracks.items in
    by_found F c.args.tracks.now.items c.args.settings.now c.args.index c.args.frame (Some w) _ c.in-Some.ensures
    (c.place_in_track.ensures.placement
    ∙ in_track_same (slice_get reset c.args.index) w c.args.frame c.args.index reset
    ∙ ap (λ (ts : List TrackState). placement_in_track (slice_get ts c.args.index) w c.args.frame c.args.index ts) (ap (states_of F) c.reset_where_due.ensures.items ∙ states_marked F w c.args.tracks.now.items))

pub returns-in-Some-clause-stores : goal.returns-in-Some-clause-stores
returns-in-Some-clause-stores g c = stores_reset g.S.FrameStore.spare g.S.FrameStore.gap c.args.index c.in-Some.timing c.args.tracks.now.items c.reset_where_due.new.tracks.items c.place_in_track.new.tracks.items c.reset_where_due.ensures.items c.place_in_track.ensures.stores

pub returns-in-None-clause-placement : goal.returns-in-None-clause-placement
returns-in-None-clause-placement g c = by_found g.S.FrameStore.frames c.args.tracks.now.items c.args.settings.now c.args.index c.args.frame None _ c.in-None.ensures refl

pub returns-in-None-clause-stores : goal.returns-in-None-clause-stores
returns-in-None-clause-stores g c = stores_same g.S.FrameStore.spare g.S.FrameStore.gap c.args.index c.args.tracks.now.items
