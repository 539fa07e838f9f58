use Rattle.std.proofs.Common.{◌≡◌, ◌+◌, ◌≤◌, ◌++◌, length, map, take, drop, filter}
use Rattle.std.specs.List.{AllByRecursion}
use Rattle.track_store.specs.Kept.{gaps_of}
use Rattle.track_store.specs.State.{states_of}
use Rattle.track_buffers.specs.Initialized.{is_media_track, new_track}
use Rattle.track_buffers.proofs.incoming.add_all.Given as goal

abbrev pub invariant-loop-track : goal.invariant-loop-track
invariant-loop-track g l = record {
  states : states_of g.S.FrameStore.frames l.tracks.items ≡ states_of g.S.FrameStore.frames l.initial.tracks.items ++ map new_track (filter is_media_track (take l.track-index l.news));
  room : length (filter is_media_track (drop l.track-index l.news)) ≤ l.tracks.spare;
  places : l.initial.tracks.spare ≤ l.tracks.spare + length (filter is_media_track (take l.track-index l.news));
  gaps : AllByRecursion (λ z. z ≡ l.gap) (gaps_of g.S.FrameStore.gap l.initial.tracks.items) → AllByRecursion (λ z. z ≡ l.gap) (gaps_of g.S.FrameStore.gap l.tracks.items);
}
