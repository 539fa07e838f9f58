-- The media of a source buffer: its track buffers and settings, and what an item of its byte stream does.
use Rattle.std.specs.Prelude.{◌≡◌, ◌≢◌, ℕ, ◌+◌, ◌^◌, min, ℤ, pos, ◌≤ℤ◌, Bool, true, false, List, [], ◌∷◌, map, if◌then◌else◌}
use Rattle.std.specs.List.{AllByRecursion}
use Rattle.mse_base.specs.declared.ticks.Moment.{Moment}
use Rattle.mse_base.specs.declared.ticks.Moment.TheVariants.{Nan, At, Infinite}
use Rattle.mse_base.specs.Moments.{is_same_moment}
use Rattle.track_store.specs.declared.store.Stored.{Stored}
use Rattle.track_store.specs.declared.tracks.Settings.{Settings}
use Rattle.track_store.specs.declared.tracks.Track.{Track}
use Rattle.track_store.specs.Kept.{AreSoundAndCountable, AreEndedBy}
use Rattle.track_store.specs.State.{TrackState, states_of}
use Rattle.track_buffers.specs.declared.effects.SourceEffect.{SourceEffect}
use Rattle.track_buffers.specs.declared.effects.MediaFault.{MediaFault}

-- The track buffers in order of the first initialization segment, how frames are placed, whether a changeType waits for
-- its initialization segment ("pending initialization segment for changeType flag"), and the gap across which ranges join.
pub record Media : Type 0 where
  pub tracks : List TrackState
  pub settings : Settings
  pub pending : Bool
  pub gap : ℤ

-- what contracts see of track buffers: the media, for how many more frames each store has room, and for how many more
-- tracks there is room
pub record MediaView : Type 0 where
  pub media : Media
  pub room : ℕ
  pub places : ℕ

-- the media of tracks with their stores
abbrev pub media_of : {S : Type 0} → (S → List Stored) → List (Track S) → Settings → Bool → ℤ
    → Media
media_of frames ts settings pending gap = record {
  tracks = states_of frames ts;
  settings = settings;
  pending = pending;
  gap = gap;
}

abbrev pub is_empty_list : {X : Type 0} → List X → Bool
is_empty_list [] = true
is_empty_list (x ∷ xs) = false

-- no initialization segment was received yet (Media Source Extensions, 3.5.7, "first initialization segment received
-- flag"): the first one makes the track buffers, of which it has at least one
abbrev pub is_awaiting_first : Media → Bool
is_awaiting_first m = is_empty_list m.tracks

-- ---- what always holds

-- the least of some numbers that are not above 2 ^ 64, and 2 ^ 64 where there is none
abbrev pub least_room : List ℕ → ℕ
least_room [] = 2 ^ 64
least_room (n ∷ ns) = min n (least_room ns)

-- for how many more frames each store has room
abbrev pub room_of : {S : Type 0} → (S → ℕ) → List (Track S) → ℕ
room_of spare ts = least_room (map (λ t. spare t.store) ts)

-- each track buffer is sound, the window has a start that is not negative and an end, and ranges of each track join
-- across the same gap
pub record HasMediaInvariants (tracks : List TrackState) (gaps : List ℤ) (settings : Settings)
    (gap : ℤ) : Type 0 where
  pub sound : AreSoundAndCountable tracks
  pub window_start : pos 0 ≤ℤ settings.window_start
  pub window_end : settings.window_end ≢ Nan
  pub gaps_are : AllByRecursion (λ g. g ≡ gap) gaps
  pub gap_from_zero : pos 0 ≤ℤ gap

-- each stored frame ends at or before the duration; without a duration there is none
abbrev pub AreEndedWithin : Moment → List TrackState → Type 0
AreEndedWithin Nan ts = AllByRecursion (λ t. t.frames ≡ []) ts
AreEndedWithin (At d) ts = AreEndedBy d ts
AreEndedWithin Infinite ts = Unit {0}

-- ---- what comes of an item at the media source

-- nothing, where this is the duration
abbrev pub no_effect : Moment → SourceEffect
no_effect d = record {
  duration_changes = 0;
  duration = d;
  activated = false;
  received_init = false;
}

-- duration change (Media Source Extensions, 2.4.6): to the duration that it has already, nothing
abbrev pub with_duration : Moment → SourceEffect → SourceEffect
with_duration d b =
    if is_same_moment d b.duration then b
    else record {
      duration_changes = b.duration_changes + 1;
      duration = d;
      activated = b.activated;
      received_init = b.received_init;
    }

-- What an item does to the media and at the source: all of it, or that it breaks the byte stream, which is an append
-- error; what came before the fault stands.
pub data MediaResult : Type 0 where
  Done : Media → SourceEffect → MediaResult
  AppendError : MediaFault → Media → SourceEffect → MediaResult

-- what comes of it at the source
abbrev pub effect_of : MediaResult → SourceEffect
effect_of (Done m b) = b
effect_of (AppendError fault m b) = b
