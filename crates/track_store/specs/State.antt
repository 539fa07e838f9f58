-- What a definition sees of a track buffer: its frames as a list.
use Rattle.std.specs.Prelude.{ℕ, List, map, true, None}
use Rattle.mse_base.specs.declared.track.Kind.{Kind}
use Rattle.track_store.specs.declared.store.Stored.{Stored}
use Rattle.track_store.specs.declared.tracks.Track.{Track}
use Rattle.track_store.specs.declared.tracks.Marks.{Marks}

pub record TrackState : Type 0 where
  pub id : ℕ
  pub kind : Kind
  pub codec : List ℕ
  pub frames : List Stored
  pub marks : Marks

-- a track, by what frames its store has
abbrev pub state_of : {S : Type 0} → (S → List Stored) → Track S → TrackState
state_of frames t = record {
  id = t.id;
  kind = t.kind;
  codec = t.codec;
  frames = frames t.store;
  marks = t.marks;
}

abbrev pub states_of : {S : Type 0} → (S → List Stored) → List (Track S) → List TrackState
states_of frames ts = map (state_of frames) ts

-- the stores of tracks
abbrev pub stores_of : {S : Type 0} → List (Track S) → List S
stores_of ts = map (λ t. t.store) ts

-- the marks of a track that has received nothing
abbrev pub new_marks : Marks
new_marks = record {
  last_decode = None;
  last_duration = None;
  highest_end = None;
  group_first = None;
  need_sync = true;
  received = 0;
}

-- the marks after a discontinuity: all unset, and a random access point is needed; the count goes on
-- (Media Source Extensions, coded frame processing, steps 1.6.2 to 1.6.5)
abbrev pub unset_marks : Marks → Marks
unset_marks m = record m {
  last_decode = None;
  last_duration = None;
  highest_end = None;
  group_first = None;
  need_sync = true;
}

-- the marks where a random access point is needed
abbrev pub marks_needing_sync : Marks → Marks
marks_needing_sync m = record m { need_sync = true }
