-- What a decoder needs to show a time: the frame that is shown then, and before it the frames of its group
-- from its random access point on (Media Source Extensions, "random access point"; coded frame processing,
-- step 1.13, "overlapped frame").
use Rattle.std.specs.Prelude.{◌≡◌, ◌+◌, ℕ, ℤ, max, nat_le, Bool, true, false, ◌&&◌, List, [], ◌∷◌, map, filter, Option, Some, None, slice_get, ⊤}
use Rattle.track_store.specs.declared.store.Stored.{Stored}
use Rattle.track_store.specs.Frames.{overlapped}

-- the greatest serial of some frames
abbrev pub greater_serial : ℕ → Option ℕ → Option ℕ
greater_serial serial None = Some serial
greater_serial serial (Some other) = Some (max serial other)

abbrev pub greatest_serial : List Stored → Option ℕ
greatest_serial [] = None
greatest_serial (f ∷ fs) = greater_serial f.serial (greatest_serial fs)

-- the frame is a random access point, and was not processed after the frame of a serial
abbrev pub is_sync_up_to : ℕ → Stored → Bool
is_sync_up_to serial f = f.frame.sync && nat_le f.serial serial

-- the serial of the random access point with which the group of a frame begins: the last one processed that
-- was not processed after the frame
abbrev pub group_serial : ℕ → List Stored → Option ℕ
group_serial serial fs = greatest_serial (filter (is_sync_up_to serial) fs)

-- the frame was processed neither before one frame nor after another
abbrev pub is_from_to : ℕ → ℕ → Stored → Bool
is_from_to first last f = nat_le first f.serial && nat_le f.serial last

-- the frames held from a random access point, where there is one, up to a frame
abbrev pub frames_from : Option ℕ → ℕ → List Stored → Option (List Stored)
frames_from None last fs = None
frames_from (Some first) last fs = Some (filter (is_from_to first last) fs)

-- the frames of its group up to a frame, where there is one
abbrev pub group_up_to : Option Stored → List Stored → Option (List Stored)
group_up_to None fs = None
group_up_to (Some wanted) fs = frames_from (group_serial wanted.serial fs) wanted.serial fs

-- the feed for a time: the frames of its group up to the frame that is shown then, in order of appending
abbrev pub feed_of : ℤ → List Stored → Option (List Stored)
feed_of t fs = group_up_to (overlapped t fs) fs

-- the places are those of frames of a list, in order
abbrev pub ArePlaces : List ℕ → List Stored → Option (List Stored) → Type 0
ArePlaces places fs None = ⊥
ArePlaces places fs (Some frames) = map (slice_get fs) places ≡ map Some frames

-- each frame can be decoded after the one given just before it: the first is a random access point, and any
-- other is none, and its serial is one more than that of the one before
abbrev pub IsInOrder : Option ℕ → List Stored → Type 0
IsInOrder before [] = ⊤
IsInOrder None (f ∷ fs) = (f.frame.sync ≡ true) × IsInOrder (Some f.serial) fs
IsInOrder (Some before) (f ∷ fs) =
    (f.frame.sync ≡ false) × (before + 1 ≡ f.serial) × IsInOrder (Some f.serial) fs

-- the frame is the last of a list
abbrev pub IsLastOf : Stored → List Stored → Type 0
IsLastOf x [] = ⊥
IsLastOf x (f ∷ []) = f ≡ x
IsLastOf x (f ∷ g ∷ fs) = IsLastOf x (g ∷ fs)

-- a group from its random access point up to a frame
abbrev pub IsGroupUpTo : Option Stored → Option (List Stored) → Type 0
IsGroupUpTo None feed = feed ≡ None
IsGroupUpTo (Some wanted) None = ⊥
IsGroupUpTo (Some wanted) (Some frames) = IsInOrder None frames × IsLastOf wanted frames
