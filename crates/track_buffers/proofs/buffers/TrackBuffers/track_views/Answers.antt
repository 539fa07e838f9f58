use Rattle.std.proofs.Common.{map}
use Rattle.track_store.specs.declared.tracks.Track.{Track}
use Rattle.track_store.specs.State.{state_of, states_of}
use Rattle.track_buffers.specs.Views.{track_view}
use Rattle.track_buffers.proofs.KeptTracks.{ok_same, views_same}
use Rattle.track_buffers.proofs.buffers.TrackBuffers.track_views.Goals as goal

pub returns : goal.returns
returns g c =
    let F = g.S.FrameStore.frames in
    let G = g.S.FrameStore.gap in
    let ts = c.self.inside.tracks.items in
    rw (← c.self.view_is) (ok_same c.track_views.result (map (λ (t : Track g.row.S.Denot). track_view (G t.store) (state_of F t)) ts) (map (track_view c.self.inside.gap) (states_of F ts)) (views_same F G c.self.inside.gap ts c.self.invariant.0.gaps_are) c.track_views.ensures)
