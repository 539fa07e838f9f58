-- What every step keeps of a track buffer: each frame that it holds can be decoded from what it holds.
use Rattle.std.specs.Prelude.{◌≡◌, ◌<◌, ◌+◌, ◌⊎◌, ℕ, ℤ, pos, ◌≤ℤ◌, Bool, true, false, List, [], ◌∷◌, Option, Some, None, ⊤}
use Rattle.std.specs.List.{AllByRecursion}
use Rattle.std.specs.Option.{IfSome}
use Rattle.track_store.specs.declared.store.Stored.{Stored}
use Rattle.track_store.specs.Frames.{IsAscending}
use Rattle.track_store.specs.State.{TrackState}

-- the list has the frame whose serial is one less
abbrev pub HasPredecessor : ℕ → List Stored → Type 0
HasPredecessor serial [] = ⊥
HasPredecessor serial (f ∷ fs) = (f.serial + 1 ≡ serial) ⊎ HasPredecessor serial fs

-- each frame is a random access point, or the list also has the frame whose serial is one less: the one
-- that was processed just before it
abbrev pub IsDecodable : List Stored → Type 0
IsDecodable fs = AllByRecursion (λ f. (f.frame.sync ≡ true) ⊎ HasPredecessor f.serial fs) fs

-- a serial is one more than another, if there is one
abbrev pub IsSuccessor : Option ℕ → ℕ → Type 0
IsSuccessor None serial = ⊥
IsSuccessor (Some before) serial = before + 1 ≡ serial

-- each frame is a random access point, or its serial is the next after that of the frame before it in the list
abbrev pub IsChained : Option ℕ → List Stored → Type 0
IsChained before [] = ⊤
IsChained before (f ∷ fs) =
    ((f.frame.sync ≡ true) ⊎ IsSuccessor before f.serial) × IsChained (Some f.serial) fs

-- the serial of the last frame, or what was before
abbrev pub last_serial : Option ℕ → List Stored → Option ℕ
last_serial before [] = before
last_serial before (f ∷ fs) = last_serial (Some f.serial) fs

-- a frame neither begins before 0 nor ends before it begins
abbrev pub IsNotNegative : Stored → Type 0
IsNotNegative f = (pos 0 ≤ℤ f.frame.pts) × (pos 0 ≤ℤ f.frame.dur)

-- the marks are set or unset together, and where they are unset a random access point is needed
abbrev pub AreTogether : Option ℤ → Option ℤ → Option ℤ → Option ℕ → Bool → Type 0
AreTogether (Some decode) (Some duration) (Some end) (Some first) need = ⊤
AreTogether None None None None need = need ≡ true
AreTogether decode duration end first need = ⊥

pub record IsSound (t : TrackState) : Type 0 where
  -- each frame can be decoded after the one before it
  pub chained : IsChained None t.frames
  pub ascending : IsAscending t.frames
  pub below : AllByRecursion (λ f. f.serial < t.marks.received) t.frames
  pub not_negative : AllByRecursion IsNotNegative t.frames
  -- while no random access point is needed, the frame that was received last is held, and last
  pub last_held : t.marks.need_sync ≡ false
      → IsSuccessor (last_serial None t.frames) t.marks.received
  pub together : AreTogether t.marks.last_decode t.marks.last_duration t.marks.highest_end
      t.marks.group_first t.marks.need_sync
  -- the group of frames since the last discontinuity begins with a random access point
  pub group_below : IfSome t.marks.group_first (λ n. n < t.marks.received)
  pub group_sync : IfSome t.marks.group_first
      (λ n. AllByRecursion (λ f. f.serial ≡ n → f.frame.sync ≡ true) t.frames)
