-- What an initialization segment that was read tells.
use Rattle.std.specs.Prelude.{◌≢◌, ◌==◌, ℕ, ◌≤◌, ◌^◌, pos, ◌≤ℤ◌, Bool, List, [], ◌∷◌, length}
use Rattle.std.specs.List.{AllByRecursion}
use Rattle.mse_base.specs.declared.ticks.Moment.TheVariants.{Nan}
use Rattle.mse_base.specs.declared.track.TrackInfo.{TrackInfo}
use Rattle.mse_base.specs.declared.track.Presentation.{Presentation}

-- the track has the number
abbrev pub has_id : ℕ → TrackInfo → Bool
has_id id t = t.id == id

-- a track that media segments can be read for
abbrev pub IsReadable : TrackInfo → Type 0
IsReadable t =
    (1 ≤ t.scale) × (pos 0 ≤ℤ t.media_shift)
    × (pos 0 ≤ℤ t.empty_shift) × (t.empty_shift ≤ℤ pos (2 ^ 109))

-- no two tracks have one number
abbrev pub HasDistinctIds : List TrackInfo → Type 0
HasDistinctIds [] = Unit {0}
HasDistinctIds (t ∷ ts) = AllByRecursion (λ u. t.id ≢ u.id) ts × HasDistinctIds ts

-- what reading an initialization segment gives
pub record IsPresentation (p : Presentation) : Type 0 where
  pub readable : AllByRecursion IsReadable p.tracks
  pub distinct : HasDistinctIds p.tracks
  pub few : length p.tracks ≤ 64
  pub timed : p.duration ≢ Nan
