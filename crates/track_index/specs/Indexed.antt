-- What an indexed store keeps.
use Rattle.std.specs.Prelude.{◌≡◌, ℕ, ℤ, pos, ◌≤ℤ◌, ◌≤◌, Bool, true, false, not, ◌&&◌, List, length, min, Option, Some, None}
use Rattle.std.specs.List.{AllByRecursion, list_any}
use Rattle.mse_base.specs.declared.ticks.Moment.{Moment}
use Rattle.mse_base.specs.declared.span.Span.{Span}
use Rattle.track_store.specs.declared.store.Stored.{Stored}
use Rattle.track_store.specs.Frames.{HasFrameInvariants, IsTimed, has_serial, bytes_of, ranges_of}
use Rattle.track_store.specs.Sound.{IsChained}
use Rattle.track_index.specs.declared.entry.OrderEntry.{OrderEntry}
use Rattle.track_index.specs.declared.key.Key.{Key}
use Rattle.track_index.specs.Order.{presentation_order, entry_of}
use Rattle.track_index.specs.Keyed.{is_before_key, key_of, is_entry_named}
use Rattle.track_index.specs.Syncs.{AreSyncsOf}

-- what is kept beside the frames: their order of presentation, serials of random access points, their
-- ranges, and their bytes
pub record FrameIndex : Type 0 where
  pub order : List OrderEntry
  pub syncs : List ℕ
  pub ranges : List Span
  pub total : ℕ

-- all that is kept beside the frames is what it is of the frames, each of which can be decoded after the
-- one before it, and there is room for one range a frame
pub record IsIndexed (frames : List Stored) (index : FrameIndex) (gap : ℤ) (room : ℕ)
    : Type 0 where
  pub kept : HasFrameInvariants frames
  pub chained : IsChained None frames
  pub timed : AllByRecursion IsTimed frames
  pub gap_from_zero : pos 0 ≤ℤ gap
  pub in_order : index.order ≡ presentation_order frames
  pub syncs : AreSyncsOf frames index.syncs
  pub joined : index.ranges ≡ ranges_of gap frames
  pub summed : index.total ≡ bytes_of frames
  pub roomy : length frames ≤ room

-- for how many more frames there is room, where each list has room for so many more
abbrev pub index_room : ℕ → ℕ → ℕ → ℕ → ℕ
index_room items order syncs ranges = min (min (min items order) syncs) ranges

-- whether the frame is not before the key, and named: it begins before a moment, and its serial is below a number
abbrev pub is_next : Key → Moment → ℕ → Stored → Bool
is_next key to below f =
    not (is_before_key key (entry_of f)) && is_entry_named to below (entry_of f)

-- the key of a frame that is not before the key and named, before which none is; or none where there is none
abbrev pub IsNextKey : Key → Moment → ℕ → Option Key → List Stored → Type 0
IsNextKey key to below None fs = AllByRecursion (λ f. is_next key to below f ≡ false) fs
IsNextKey key to below (Some next) fs =
    (list_any (has_serial next.serial) fs ≡ true) × (key.mark ≤ℤ next.mark)
    × AllByRecursion (λ f. f.serial ≡ next.serial
    → (is_next key to below f ≡ true) × (next ≡ key_of (entry_of f))) fs
    × AllByRecursion (λ f. is_next key to below f ≡ true
    → is_before_key next (entry_of f) ≡ false) fs
