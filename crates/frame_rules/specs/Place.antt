-- Coded frame processing as one function on lists (Media Source Extensions, 3.5.8).
use Rattle.std.specs.Prelude.{ℕ, ℤ, pos, ◌≤ℤ◌, ◌+◌, ◌<◌, ◌≤◌, ◌≢◌, ◌^◌, Bool, ◌||◌, ◌==◌, nat_le, List, map, length, slice_get, slice_set, Option, Some, None, if◌then◌else◌}
use Rattle.std.specs.Int.{int_max}
use Rattle.std.specs.Option.{IfSome}
use Rattle.mse_base.specs.declared.frame.CodedFrame.{CodedFrame}
use Rattle.track_store.specs.declared.store.Stored.{Stored}
use Rattle.track_store.specs.declared.tracks.Marks.{Marks}
use Rattle.track_store.specs.declared.tracks.Track.{Track}
use Rattle.track_store.specs.declared.tracks.Settings.{Settings}
use Rattle.track_store.specs.Frames.{bytes_of}
use Rattle.track_store.specs.State.{TrackState, state_of, unset_marks, marks_needing_sync}
use Rattle.track_store.specs.Sound.{IsSound}
use Rattle.track_store.specs.Kept.{bytes_in}
use Rattle.frame_rules.specs.declared.timing.Timing.{Timing}
use Rattle.frame_rules.specs.declared.answer.Placed.{Placed}
use Rattle.frame_rules.specs.declared.answer.Placed.TheVariants as placed_as
use Rattle.frame_rules.specs.Timing.{timing_of}
use Rattle.frame_rules.specs.Put.{drop_reason, track_after_frame, answer_by_reason}

-- what a call of `place` leaves and answers
pub record Placement : Type 0 where
  pub answer : Placed
  pub tracks : List TrackState
  pub settings : Settings

abbrev pub new_placement : Placed → List TrackState → Settings → Placement
new_placement answer tracks settings = record {
  answer = answer;
  tracks = tracks;
  settings = settings;
}

-- steps 1.6.2 to 1.6.5 and 1.3.3, on each track buffer: after a discontinuity its marks are unset; where the
-- frame begins at a group start timestamp, a random access point is needed
abbrev pub marks_after_reset : Timing → Marks → Marks
marks_after_reset timing m =
    if timing.discontinuity then unset_marks m
    else (if timing.starts_group then marks_needing_sync m else m)

abbrev pub track_after_reset : Timing → TrackState → TrackState
track_after_reset timing t = record t { marks = marks_after_reset timing t.marks }

-- the same of a track with its store
abbrev pub with_reset_marks : {S : Type 0} → Timing → Track S → Track S
with_reset_marks timing t = record t { marks = marks_after_reset timing t.marks }

-- a count would pass its limit: of the frames received, or of the bytes stored with those of the frame
abbrev pub is_over_limit : ℕ → ℕ → ℕ → Bool
is_over_limit received bytes more = (received == 2 ^ 62) || nat_le (2 ^ 62) (bytes + more)

-- steps 1.20 and 1.21: after a stored frame the group end timestamp is not below its end, and where timestamps
-- are generated the offset is its end
abbrev pub settings_after_frame : Placed → Timing → Settings
settings_after_frame placed_as.Stored timing = record timing.settings {
  group_end = int_max timing.settings.group_end timing.end;
  offset = if timing.settings.generate then timing.end else timing.settings.offset;
}
settings_after_frame (placed_as.Dropped why) timing = timing.settings
settings_after_frame placed_as.TimeRange timing = timing.settings
settings_after_frame placed_as.Counts timing = timing.settings

-- steps 1.8 to 1.21, for a frame of the track at place i
abbrev pub placement_in_track : Option TrackState → Timing → CodedFrame → ℕ → List TrackState
    → Placement
placement_in_track None timing f i ts = new_placement placed_as.Counts ts timing.settings
placement_in_track (Some t) timing f i ts =
    let answer = answer_by_reason (drop_reason timing f.sync t.marks.need_sync) in
    new_placement answer (slice_set ts i (track_after_frame timing f t))
    (settings_after_frame answer timing)

-- the same, after what steps 1.3 and 1.6 do to all track buffers
abbrev pub placement_at_times : Timing → CodedFrame → ℕ → List TrackState → Placement
placement_at_times timing f i ts =
    let reset = map (track_after_reset timing) ts in
    placement_in_track (slice_get reset i) timing f i reset

-- by the frame's times: where there are none, nothing happens
abbrev pub placement_by_times : Option Timing → Settings → CodedFrame → ℕ → List TrackState
    → Placement
placement_by_times None s f i ts = new_placement placed_as.TimeRange ts s
placement_by_times (Some timing) s f i ts = placement_at_times timing f i ts

-- where a count would pass its limit, nothing happens
abbrev pub placement_in : Option TrackState → List TrackState → Settings → ℕ → CodedFrame
    → Placement
placement_in None ts s i f = new_placement placed_as.Counts ts s
placement_in (Some t) ts s i f =
    if is_over_limit t.marks.received (bytes_in ts) (length f.payload)
    then new_placement placed_as.Counts ts s
    else placement_by_times (timing_of s t.marks f) s f i ts

-- coded frame processing of a frame of the track at place i
abbrev pub placement : List TrackState → Settings → ℕ → CodedFrame → Placement
placement ts s i f = placement_in (slice_get ts i) ts s i f

-- a frame of so many bytes can be put into the track
pub record IsReadyForFrame {S : Type 0} (frames : S → List Stored) (spare : S → ℕ) (bytes : ℕ)
    (t : Track S) : Type 0 where
  pub sound : IsSound (state_of frames t)
  pub room : 1 ≤ spare t.store
  pub count : t.marks.received < 2 ^ 62
  pub small : bytes_of (frames t.store) + bytes < 2 ^ 62

-- a frame that does not end before it begins can be put into the track at a place
pub record IsReadyForFrameAt {S : Type 0} (frames : S → List Stored) (spare : S → ℕ) (i : ℕ)
    (f : CodedFrame) (ts : List (Track S)) : Type 0 where
  pub in_range : i < length ts
  pub track : IfSome (slice_get ts i) (IsReadyForFrame frames spare (length f.payload))
  pub dur_not_negative : pos 0 ≤ℤ f.dur

-- no store lost room but the one at the place, which lost room for one frame at most
abbrev pub IsRoomTakenAt : {S : Type 0} → (S → ℕ) → ℕ → List (Track S) → List (Track S) → Type 0
IsRoomTakenAt spare i old new =
    (k : ℕ)
    → IfSome (slice_get old k)
    (λ t. IfSome (slice_get new k)
    (λ u. (spare t.store ≤ spare u.store + 1) × (k ≢ i → spare t.store ≤ spare u.store)))

-- a time that all frames end by, after a frame: the greater of it and the group end timestamp, if it was stored
abbrev pub limit_after : Placed → ℤ → ℤ → ℤ
limit_after placed_as.Stored limit group_end = int_max limit group_end
limit_after (placed_as.Dropped why) limit group_end = limit
limit_after placed_as.TimeRange limit group_end = limit
limit_after placed_as.Counts limit group_end = limit
