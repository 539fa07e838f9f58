-- What holds of all tracks of a source buffer.
use Rattle.std.specs.Prelude.{ℕ, ◌<◌, ◌≤◌, ◌^◌, ℤ, ◌+ℤ◌, ◌≤ℤ◌, List, [], ◌∷◌, map, sum_by, ⊤}
use Rattle.std.specs.List.{AllByRecursion}
use Rattle.track_store.specs.declared.tracks.Track.{Track}
use Rattle.track_store.specs.Frames.{bytes_of}
use Rattle.track_store.specs.State.{TrackState}
use Rattle.track_store.specs.Sound.{IsSound}

-- the bytes stored in all track buffers
abbrev pub bytes_in : List TrackState → ℕ
bytes_in ts = sum_by (λ t. bytes_of t.frames) ts

-- a track received at most 2 ^ 62 frames
abbrev pub IsCountable : TrackState → Type 0
IsCountable t = t.marks.received ≤ 2 ^ 62

-- what every step keeps: each track buffer is sound, and the frames received and the bytes of all can be counted
pub record AreSoundAndCountable (ts : List TrackState) : Type 0 where
  pub sound : AllByRecursion IsSound ts
  pub counted : AllByRecursion IsCountable ts
  pub small : bytes_in ts < 2 ^ 62

-- of two lists of the same tracks, each track that is sound in the first is sound in the second
abbrev pub AreStillSound : List TrackState → List TrackState → Type 0
AreStillSound [] [] = ⊤
AreStillSound [] (u ∷ us) = ⊥
AreStillSound (t ∷ ts) [] = ⊥
AreStillSound (t ∷ ts) (u ∷ us) = (IsSound t → IsSound u) × AreStillSound ts us

-- each stored frame ends at or before a time
abbrev pub AreEndedBy : ℤ → List TrackState → Type 0
AreEndedBy limit ts =
    AllByRecursion (λ t. AllByRecursion (λ f. (f.frame.pts +ℤ f.frame.dur) ≤ℤ limit) t.frames) ts

-- each store has room for so many more frames
abbrev pub HasSpareRoom : {S : Type 0} → (S → ℕ) → ℕ → List (Track S) → Type 0
HasSpareRoom spare n ts = AllByRecursion (λ t. n ≤ spare t.store) ts

-- across which gaps the ranges of each track join
abbrev pub gaps_of : {S : Type 0} → (S → ℤ) → List (Track S) → List ℤ
gaps_of gap ts = map (λ t. gap t.store) ts
