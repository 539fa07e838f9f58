-- Coded frame eviction as one function on lists (Media Source Extensions, 3.5.10).
use Rattle.std.specs.Prelude.{ℕ, ◌+◌, ℤ, int_le, int_lt, nat_le, nat_lt, Bool, ◌&&◌, List, [], ◌∷◌, ◌++◌, filter, find, fold, reverse, slice_get, Option, Some, None, if◌then◌else◌}
use Rattle.std.specs.Option.{option_or}
use Rattle.mse_base.specs.declared.ticks.Moment.{Moment}
use Rattle.track_store.specs.declared.store.Stored.{Stored}
use Rattle.track_store.specs.Frames.{starts}
use Rattle.track_store.specs.Kept.{bytes_in}
use Rattle.track_store.specs.State.{TrackState}
use Rattle.mse_base.specs.Moments.{is_at_or_before, is_before, is_video, time_or}
use Rattle.range_removal.specs.Removal.{tracks_after_removal}

-- the lead track: the first video track, and the first track where there is no video track
abbrev pub lead_of : List TrackState → Option TrackState
lead_of ts = option_or (find (λ t. is_video t.kind) ts) (slice_get ts 0)

-- the frames of a track, if there is one
abbrev pub frames_of : Option TrackState → List Stored
frames_of None = []
frames_of (Some t) = t.frames

-- ascending times with one more, each held once
abbrev pub with_time : List ℤ → ℤ → List ℤ
with_time [] t = t ∷ []
with_time (u ∷ us) t =
    if int_lt t u then (t ∷ u ∷ us) else (if int_lt u t then (u ∷ with_time us t) else (u ∷ us))

-- the distinct presentation timestamps of the random access points, ascending
abbrev pub sync_times : List Stored → List ℤ
sync_times fs = fold with_time [] (starts (filter (λ f. f.frame.sync) fs))

-- a range of presentation timestamps that can be evicted
pub record RemovalRange : Type 0 where
  pub start : ℤ
  pub end : Moment

-- the first of some times
abbrev pub first_of : List ℤ → Option ℤ
first_of [] = None
first_of (t ∷ ts) = Some t

-- from each random access point to the next, and from the last to the duration
abbrev pub removal_ranges : Moment → List ℤ → List RemovalRange
removal_ranges duration [] = []
removal_ranges duration (t ∷ ts) =
    record { start = t; end = time_or (first_of ts) duration } ∷ removal_ranges duration ts

-- the range ends at or before the position
abbrev pub is_up_to_position : ℤ → RemovalRange → Bool
is_up_to_position position r = is_at_or_before r.end position

-- the range starts after the position
abbrev pub is_after_position : ℤ → RemovalRange → Bool
is_after_position position r = int_lt position r.start

-- the range holds a time
abbrev pub has_time : RemovalRange → ℤ → Bool
has_time r t = int_le r.start t && is_before t r.end

-- step 3: the removal ranges in the order in which they go. First those that end at or before the current
-- playback position, from the earliest on, and then those that start after it, from the latest back.
abbrev pub ranges_in_order : ℤ → List RemovalRange → List RemovalRange
ranges_in_order position rs =
    filter (is_up_to_position position) rs ++ reverse (filter (is_after_position position) rs)

-- the new bytes have room beside those that are stored
abbrev pub is_within_quota : ℕ → ℕ → ℕ → Bool
is_within_quota used new quota = nat_le (used + new) quota

abbrev pub has_room : ℕ → ℕ → List TrackState → Bool
has_room new quota ts = is_within_quota (bytes_in ts) new quota

-- step 4: one range after another is removed, until the new bytes have room
abbrev pub tracks_while_full : ℕ → ℕ → Moment → List RemovalRange → List TrackState
    → List TrackState
tracks_while_full new quota duration [] ts = ts
tracks_while_full new quota duration (r ∷ rs) ts =
    if has_room new quota ts then ts
    else tracks_while_full new quota duration rs (tracks_after_removal r.start r.end duration ts)

-- coded frame eviction. Where the stored bytes are below the quota, the buffer is not full and nothing
-- happens (step 2).
abbrev pub tracks_after_eviction : ℤ → ℕ → ℕ → Moment → List TrackState → List TrackState
tracks_after_eviction position new quota duration ts =
    if nat_lt (bytes_in ts) quota then ts
    else tracks_while_full new quota duration
    (ranges_in_order position (removal_ranges duration (sync_times (frames_of (lead_of ts))))) ts
