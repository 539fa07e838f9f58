use Rattle.track_store.specs.State.{states_of}
use Rattle.track_buffers.proofs.KeptTracks.{made_more, places_here, places_left}
use Rattle.track_buffers.proofs.Stores.{places_taken}
use Rattle.track_buffers.proofs.incoming.add_all.Goals as goal

pub add_one-requires-clause-room : goal.add_one-requires-clause-room
add_one-requires-clause-room g c = places_here c.args.news.now c.loop-track.track-index c.track-item.result c.loop-track.tracks.spare c.loop-track-test.true c.track-item.is c.loop-track.invariant.room

pub loop-track-preserved : goal.loop-track-preserved
loop-track-preserved g c =
    let F = g.S.FrameStore.frames in
    let us = c.args.news.now in
    let i = c.loop-track.track-index in
    record {
      states = made_more (states_of F c.args.tracks.now.items) (states_of F c.loop-track.tracks.items) (states_of F c.add_one.new.tracks.items) us i c.track-item.result c.loop-track-test.true c.track-item.is c.loop-track.invariant.states c.add_one.ensures.states;
      room = places_left us i c.track-item.result c.loop-track.tracks.spare c.add_one.new.tracks.spare c.loop-track-test.true c.track-item.is c.loop-track.invariant.room c.add_one.ensures.places_taken;
      places = places_taken us i c.track-item.result c.args.tracks.now.spare c.loop-track.tracks.spare c.add_one.new.tracks.spare c.loop-track-test.true c.track-item.is c.loop-track.invariant.places c.add_one.ensures.places_taken;
      gaps = λ h. c.add_one.ensures.gaps (c.loop-track.invariant.gaps h);
    }
