-- What the times of the random access points of a list of frames are.
use Rattle.std.specs.Prelude.{◌≡◌, ◌⊎◌, ℤ, ◌<ℤ◌, true, List, [], ◌∷◌}
use Rattle.std.specs.List.{AllByRecursion}
use Rattle.track_store.specs.declared.store.Stored.{Stored}

-- each time is before all that follow
abbrev pub IsRising : List ℤ → Type 0
IsRising [] = Unit {0}
IsRising (t ∷ ts) = AllByRecursion (λ u. t <ℤ u) ts × IsRising ts

-- the time is one of the list
abbrev pub IsAmong : ℤ → List ℤ → Type 0
IsAmong t [] = ⊥
IsAmong t (u ∷ us) = (u ≡ t) ⊎ IsAmong t us

-- a random access point of the list begins at the time
abbrev pub HasSyncAt : ℤ → List Stored → Type 0
HasSyncAt t [] = ⊥
HasSyncAt t (f ∷ fs) = ((f.frame.sync ≡ true) × (f.frame.pts ≡ t)) ⊎ HasSyncAt t fs
