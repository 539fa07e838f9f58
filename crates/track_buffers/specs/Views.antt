-- What a view shows of the track buffers.
use Rattle.std.specs.Prelude.{ℤ, List, map, length}
use Rattle.mse_calls.specs.declared.views.TrackView.{TrackView}
use Rattle.track_store.specs.Frames.{ranges_of}
use Rattle.track_store.specs.State.{TrackState}
use Rattle.track_buffers.specs.Media.{Media}

abbrev pub track_view : ℤ → TrackState → TrackView
track_view gap t = record {
  id = t.id;
  kind = t.kind;
  codec = t.codec;
  frames = length t.frames;
  ranges = ranges_of gap t.frames;
}

abbrev pub track_views_of : Media → List TrackView
track_views_of m = map (track_view m.gap) m.tracks
