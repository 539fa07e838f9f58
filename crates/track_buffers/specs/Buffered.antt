-- The buffered ranges of a source buffer (Media Source Extensions, 3.1, buffered).
use Rattle.std.specs.Prelude.{◌≡◌, ◌≢◌, ℤ, int_le, Bool, true, false, List, [], ◌∷◌, map, find, flat_map, Option, Some, None, option_map, option_to_list}
use Rattle.std.specs.Int.{int_max}
use Rattle.std.specs.List.{list_all}
use Rattle.mse_base.specs.declared.span.Span.{Span}
use Rattle.mse_base.specs.Meets.{meet_of_all}
use Rattle.mse_base.specs.Spans.{has_end_after, has_tick_in, last_of, reaches, IsNormalized}
use Rattle.track_store.specs.declared.store.Stored.{Stored}
use Rattle.track_store.specs.declared.tracks.Track.{Track}
use Rattle.mse_base.specs.Moments.{greatest}
use Rattle.track_store.specs.Frames.{ranges_of}
use Rattle.track_buffers.specs.declared.sought.Sought.{Sought}
use Rattle.track_buffers.specs.declared.sought.Sought.TheVariants.{Holding, EndAfter}
use Rattle.track_buffers.specs.Media.{Media}

-- where the last range ends, if there is one
abbrev pub last_end : List Span → Option ℤ
last_end r = option_map (λ s. s.end) (last_of r)

-- the ends of the last ranges
abbrev pub last_ends : List (List Span) → List ℤ
last_ends rs = flat_map (λ r. option_to_list (last_end r)) rs

-- the ranges, of which the last lasts to an end, if it ends before
abbrev pub with_last_end : ℤ → List Span → List Span
with_last_end e [] = []
with_last_end e (s ∷ []) = record { start = s.start; end = int_max s.end e } ∷ []
with_last_end e (s ∷ r ∷ rs) = s ∷ with_last_end e (r ∷ rs)

-- the same where there is an end, and else the ranges
abbrev pub with_end : Option ℤ → List Span → List Span
with_end None rs = rs
with_end (Some e) rs = with_last_end e rs

-- whether a range is one that is looked for: it holds the time, or it ends after the time
abbrev pub is_sought : Sought → Span → Bool
is_sought (Holding t) = reaches t
is_sought (EndAfter t) = has_end_after t

-- there is a range, and it ends at a time or after it
abbrev pub lasts_to : ℤ → Option Span → Bool
lasts_to t None = false
lasts_to t (Some s) = int_le t s.end

-- a range holds a time, and it lasts to another
abbrev pub is_buffered_up_to : ℤ → ℤ → List Span → Bool
is_buffered_up_to t until rs = lasts_to until (find (reaches t) rs)

-- the ticks by which the last range grows: from its start on and before the end, where there is a range
abbrev pub last_up_to : ℤ → List Span → List Span
last_up_to e rs =
    option_to_list (option_map (λ s. record { start = s.start; end = e }) (last_of rs))

-- step 4.2: where the source is ended, the last range of each track lasts to the highest end of all
abbrev pub with_common_end : Bool → List (List Span) → List (List Span)
with_common_end false rs = rs
with_common_end true rs = map (with_end (greatest (last_ends rs))) rs

abbrev pub track_ranges : Media → List (List Span)
track_ranges m = map (λ t. ranges_of m.gap t.frames) m.tracks

-- the ranges of the buffer: the ticks that all its tracks have; none where it has no tracks
abbrev pub buffered_of : Bool → Media → List Span
buffered_of ended m = meet_of_all (with_common_end ended (track_ranges m))

-- the statement about sets of ticks that stands above it
abbrev pub is_covered_by_all : List (List Span) → ℤ → Bool
is_covered_by_all rs t = list_all (λ r. has_tick_in r t) rs

pub record IsBuffered (ended : Bool) (m : Media) (spans : List Span) : Type 0 where
  pub same : (t : ℤ) → m.tracks ≢ []
      → has_tick_in spans t ≡ is_covered_by_all (with_common_end ended (track_ranges m)) t
  pub none : m.tracks ≡ [] → spans ≡ []
  pub normalized : IsNormalized spans

-- the ranges of tracks with their stores
abbrev pub ranges_in : {S : Type 0} → (S → List Stored) → (S → ℤ) → List (Track S)
    → List (List Span)
ranges_in frames gap ts = map (λ t. ranges_of (gap t.store) (frames t.store)) ts
