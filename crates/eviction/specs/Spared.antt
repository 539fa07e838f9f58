-- What an eviction leaves of the frames that begin in the removal range which holds the current playback
-- position.
use Rattle.std.specs.Prelude.{◌≡◌, ◌⊎◌, ◌<ℤ◌, Bool, true, false, List, [], ◌∷◌}
use Rattle.std.specs.List.{AllByRecursion}
use Rattle.track_store.specs.declared.store.Stored.{Stored}
use Rattle.track_store.specs.Frames.{frames_without}
use Rattle.eviction.specs.Evicting.{RemovalRange, has_time}

-- the range is one of the list
abbrev pub HasRange : RemovalRange → List RemovalRange → Type 0
HasRange r [] = ⊥
HasRange r (q ∷ qs) = (q ≡ r) ⊎ HasRange r qs

-- the frames that are left are those without some that are named, and their decoding dependencies; a named
-- frame that begins in the range begins before each random access point of the track in the range
pub record IsLeftOf (r : RemovalRange) (before left : List Stored) : Type 0 where
  pub named : Stored → Bool
  pub without : left ≡ frames_without named before
  pub ahead : (f : Stored) → named f ≡ true → has_time r f.frame.pts ≡ true
      → AllByRecursion
      (λ g. g.frame.sync ≡ true → has_time r g.frame.pts ≡ true → f.frame.pts <ℤ g.frame.pts) before

-- the same, and no named frame begins in the range
pub record IsSparedIn (r : RemovalRange) (before left : List Stored) : Type 0 where
  pub named : Stored → Bool
  pub without : left ≡ frames_without named before
  pub spared : (f : Stored) → named f ≡ true → has_time r f.frame.pts ≡ false
