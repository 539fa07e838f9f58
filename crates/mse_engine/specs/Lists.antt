-- The lists of a media source tell the same of a source buffer as its slot.
use Rattle.std.specs.Prelude.{◌≡◌, ℕ, Bool, false, not, List, Option, Some, None, is_some}
use Rattle.track_buffers.specs.Media.{Media, is_awaiting_first}
use Rattle.source_state.specs.State.{SourceState, is_listed_in}
use Rattle.source_buffers.specs.State.{in_slot}

-- a buffer is there that has received its first initialization segment (Media Source Extensions, 3.5.7, "first
-- initialization segment received flag")
abbrev pub has_first_init : Option Media → Bool
has_first_init None = false
has_first_init (Some m) = not (is_awaiting_first m)

-- by the media in each slot
pub record AreListsSame (s : SourceState) (media : List (Option Media)) : Type 0 where
  -- a buffer is in sourceBuffers exactly where its slot is filled
  pub listed : (k : ℕ) → is_listed_in k s.listed ≡ is_some (in_slot k media)
  -- it is in activeSourceBuffers exactly where it is in sourceBuffers and has had its first initialization segment
  pub active : (k : ℕ) → is_listed_in k s.active ≡ has_first_init (in_slot k media)
