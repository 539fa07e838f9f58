-- What is buffered at one source buffer, and at the media element (Media Source Extensions, 6, HTMLMediaElement
-- extensions, buffered).
use Rattle.std.specs.Prelude.{◌≡◌, ◌≢◌, ℕ, ◌==◌, ℤ, Bool, true, ◌&&◌, List, [], map, find, slice_get, Option, Some, None, option_map, unwrap_or, if◌then◌else◌}
use Rattle.mse_base.specs.declared.span.Span.{Span}
use Rattle.mse_base.specs.Meets.{meet_of_all}
use Rattle.mse_base.specs.Spans.{has_tick_in, reaches, IsNormalized}
use Rattle.track_store.specs.State.{TrackState}
use Rattle.track_buffers.specs.Media.{Media}
use Rattle.track_buffers.specs.Buffered.{buffered_of, with_common_end, is_covered_by_all}
use Rattle.buffer_state.specs.declared.reply.Reply.{Reply}
use Rattle.buffer_state.specs.State.{KeptBuffer}
use Rattle.source_buffers.specs.State.{KeptBuffers, in_slot, kept_media, all_kept_media}

-- the ranges of the buffer of a number, if it is there
abbrev pub buffered_at : Bool → ℕ → List (Option Media) → Option (List Span)
buffered_at ended k ms = option_map (buffered_of ended) (in_slot k ms)

-- the ranges of what is in a slot; none where it is empty
abbrev pub slot_ranges : Bool → Option Media → List Span
slot_ranges ended m = unwrap_or (option_map (buffered_of ended) m) []

-- the ranges of each active buffer
abbrev pub active_ranges : Bool → List ℕ → List (Option Media) → List (List Span)
active_ranges ended active ms = map (λ k. slot_ranges ended (in_slot k ms)) active

-- step 4: where the source is ended, the last range of each active buffer lasts to the highest end of all
abbrev pub shared_ranges : Bool → List ℕ → List (Option Media) → List (List Span)
shared_ranges ended active ms = with_common_end ended (active_ranges ended active ms)

-- the ranges of the element: the ticks that all active buffers have; none where no buffer is active
abbrev pub element_ranges : Bool → List ℕ → List (Option Media) → List Span
element_ranges ended active ms = meet_of_all (shared_ranges ended active ms)

-- the range of the element that holds a time, or ends at it
abbrev pub element_span : ℤ → Bool → List ℕ → List (Option Media) → Option Span
element_span t ended active ms = find (reaches t) (element_ranges ended active ms)

-- the statement about sets of ticks that stands above it
pub record IsElementBuffered (ended : Bool) (active : List ℕ)
    (ms : List (Option Media)) : Type 0 where
  pub same : (t : ℤ) → active ≢ []
      → has_tick_in (element_ranges ended active ms) t
      ≡ is_covered_by_all (shared_ranges ended active ms) t
  pub none : active ≡ [] → element_ranges ended active ms ≡ []
  pub normalized : IsNormalized (element_ranges ended active ms)

-- a track of what is in a slot, in order of the first initialization segment
abbrev pub slot_track : ℕ → Option Media → Option TrackState
slot_track i None = None
slot_track i (Some m) = slice_get m.tracks i

-- a track of the buffer of a number
abbrev pub track_at : ℕ → ℕ → List (Option Media) → Option TrackState
track_at k i ms = slot_track i (in_slot k ms)

-- where an initialization segment was received, the ranges of the buffer are as before; there are none where it was the
-- first
abbrev pub AreSlotRangesLeft : Option KeptBuffer → Reply → Option KeptBuffer → Type 0
AreSlotRangesLeft old reply new =
    reply.received_init ≡ true → (ended : Bool)
    → slot_ranges ended (kept_media new)
    ≡ (if reply.activated then [] else slot_ranges ended (kept_media old))

-- the same of each buffer, where it was received at the buffer of a number
abbrev pub AreRangesAfterInit : ℕ → KeptBuffers → Reply → KeptBuffers → Type 0
AreRangesAfterInit k old reply new =
    reply.received_init ≡ true → (ended : Bool) (j : ℕ)
    → slot_ranges ended (in_slot j (all_kept_media new))
    ≡ (if reply.activated && (j == k) then []
    else slot_ranges ended (in_slot j (all_kept_media old)))
