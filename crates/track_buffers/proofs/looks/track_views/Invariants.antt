use Rattle.std.proofs.Common.{◌≡◌, map, take}
use Rattle.track_store.specs.declared.tracks.Track.{Track}
use Rattle.track_store.specs.State.{state_of}
use Rattle.track_buffers.specs.Views.{track_view}
use Rattle.track_buffers.proofs.looks.track_views.Given as goal

abbrev pub invariant-loop-i : goal.invariant-loop-i
invariant-loop-i g l = l.views.items ≡ map (λ (t : Track _). track_view (g.S.FrameStore.gap t.store) (state_of g.S.FrameStore.frames t)) (take l.i l.tracks.items)
