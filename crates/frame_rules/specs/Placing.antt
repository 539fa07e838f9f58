-- What placing a frame asks, and what comes of it.
use Rattle.std.specs.Prelude.{◌≡◌, ℕ, ◌<◌, ◌≤◌, ◌+◌, ◌^◌, ℤ, pos, ◌≤ℤ◌, List, length, slice_get}
use Rattle.std.specs.Option.{IfSome}
use Rattle.mse_base.specs.declared.frame.CodedFrame.{CodedFrame}
use Rattle.track_store.specs.declared.store.Stored.{Stored}
use Rattle.track_store.specs.declared.tracks.Settings.{Settings}
use Rattle.track_store.specs.declared.tracks.Track.{Track}
use Rattle.track_store.specs.Kept.{bytes_in, gaps_of, HasSpareRoom, IsCountable, AreSoundAndCountable, AreStillSound, AreEndedBy}
use Rattle.track_store.specs.Room.{Room}
use Rattle.track_store.specs.Sound.{IsSound}
use Rattle.track_store.specs.State.{states_of}
use Rattle.frame_rules.specs.declared.answer.Placed.{Placed}
use Rattle.frame_rules.specs.Place.{new_placement, placement, IsRoomTakenAt, limit_after}

-- the frame can be placed in the track at a place, which is sound and received at most 2 ^ 62 frames, and whose store
-- has room for it; the bytes of all tracks are fewer than 2 ^ 62
pub record IsPlaceable {S : Type 0} (frames : S → List Stored) (spare : S → ℕ) (index : ℕ)
    (frame : CodedFrame) (settings : Settings) (ts : List (Track S)) : Type 0 where
  pub in_range : index < length ts
  pub room : IfSome (slice_get ts index) (λ t. 1 ≤ spare t.store)
  pub sound : IfSome (slice_get (states_of frames ts) index) IsSound
  pub count : IfSome (slice_get (states_of frames ts) index) IsCountable
  pub small : bytes_in (states_of frames ts) < 2 ^ 62
  pub window_start : pos 0 ≤ℤ settings.window_start
  pub dur_not_negative : pos 0 ≤ℤ frame.dur

-- the room of the track at a place falls by one frame at most, and of the others not; gaps and tracks stay
pub record AreStoresKept {S : Type 0} (spare : S → ℕ) (gap : S → ℤ) (index : ℕ)
    (old new : List (Track S)) : Type 0 where
  pub spare_there : IsRoomTakenAt spare index old new
  pub room : (n : ℕ) → HasSpareRoom spare (n + 1) old → HasSpareRoom spare n new
  pub gaps : gaps_of gap new ≡ gaps_of gap old
  pub len : length new ≡ length old

-- What comes of the frame is what `placement` says. A track that was sound stays so; where all were sound and could be
-- counted, they still can; their bytes stay below 2^62, and the append window does not start before 0; no frame ends
-- later than before or than the group end timestamp; stores and places are kept.
pub record IsPlaced {S : Type 0} (frames : S → List Stored) (spare : S → ℕ) (gap : S → ℤ)
    (index : ℕ) (frame : CodedFrame) (settings : Settings) (old : Room (Track S)) (answer : Placed)
    (new_settings : Settings) (new : Room (Track S)) : Type 0 where
  pub placement :
      new_placement answer (states_of frames new.items) new_settings
      ≡ placement (states_of frames old.items) settings index frame
  pub sound : AreStillSound (states_of frames old.items) (states_of frames new.items)
  pub small : bytes_in (states_of frames new.items) < 2 ^ 62
  pub sound_and_countable :
      AreSoundAndCountable (states_of frames old.items)
      → AreSoundAndCountable (states_of frames new.items)
  pub window_start : pos 0 ≤ℤ new_settings.window_start
  pub ends :
      (limit : ℤ) → AreEndedBy limit (states_of frames old.items)
      → AreEndedBy (limit_after answer limit new_settings.group_end) (states_of frames new.items)
  pub stores : AreStoresKept spare gap index old.items new.items
  pub places : new.spare ≡ old.spare
