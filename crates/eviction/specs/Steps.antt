-- A device of the proof: removal ranges one after another, as the code finds them, by what is left of the lead track.
use Rattle.std.specs.Prelude.{◌≡◌, ℕ, ℤ, ◌≤ℤ◌, int_le, int_lt, Bool, true, ◌&&◌, List, [], ◌∷◌, filter, reverse, slice_get, Option, Some, None}
use Rattle.std.specs.List.{AllByRecursion}
use Rattle.mse_base.specs.declared.ticks.Moment.{Moment}
use Rattle.mse_base.specs.declared.ticks.Moment.TheVariants.{At}
use Rattle.track_store.specs.State.{TrackState}
use Rattle.mse_base.specs.Moments.{time_or}
use Rattle.eviction.specs.declared.need.Need.{Need}
use Rattle.eviction.specs.Times.{IsAmong}
use Rattle.eviction.specs.Evicting.{RemovalRange, frames_of, sync_times, removal_ranges, is_up_to_position, tracks_while_full}

-- the times of the track at place k
abbrev pub times_at : ℕ → List TrackState → List ℤ
times_at k ts = sync_times (frames_of (slice_get ts k))

-- the times from one on
abbrev pub times_from : Option ℤ → List ℤ → List ℤ
times_from None ts = []
times_from (Some t) ts = filter (int_le t) ts

-- the time is before the next, if there is one
abbrev pub is_below : Option ℤ → ℤ → Bool
is_below None t = true
is_below (Some next) t = int_lt t next

-- the times after one and before the next
abbrev pub times_between : ℤ → Option ℤ → List ℤ → List ℤ
times_between after next ts = filter (λ t. int_lt after t && is_below next t) ts

-- the ranges from the latest back, of descending times
abbrev pub ranges_back : Moment → List ℤ → List RemovalRange
ranges_back end [] = []
ranges_back end (t ∷ ts) = record { start = t; end = end } ∷ ranges_back (At t) ts

-- the ranges that are left to be removed before the position, from the one that starts at a time on
abbrev pub left_before : ℤ → ℕ → Moment → Option ℤ → List TrackState → List RemovalRange
left_before position k duration start ts =
    filter (is_up_to_position position) (removal_ranges duration (times_from start (times_at k ts)))

-- the ranges that are left to be removed after the position, from the one that ends where the next starts back
abbrev pub left_after : ℤ → ℕ → Moment → Option ℤ → List TrackState → List RemovalRange
left_after position k duration next ts =
    ranges_back (time_or next duration) (reverse (times_between position next (times_at k ts)))

-- the tracks, where the ranges that are left to be removed of them go one by one while the new bytes have no room
abbrev pub tracks_without_left : Need → Moment → (List TrackState → List RemovalRange)
    → List TrackState → List TrackState
tracks_without_left need duration left ts =
    tracks_while_full need.new_bytes need.quota duration (left ts) ts

-- the latest of the times before the next
pub record IsLatest (next : Option ℤ) (ts : List ℤ) (t : ℤ) : Type 0 where
  pub has : IsAmong t ts
  pub below : is_below next t ≡ true
  pub latest : AllByRecursion (λ u. is_below next u ≡ true → u ≤ℤ t) ts
