-- Which track buffer a coded frame finds.
use Rattle.std.specs.Prelude.{◌≢◌, ℕ, List, [], ◌∷◌, find, IsSome}
use Rattle.std.specs.List.{AllByRecursion}
use Rattle.mse_base.specs.declared.frame.CodedFrame.{CodedFrame}
use Rattle.mse_base.specs.declared.track.Presentation.{Presentation}
use Rattle.mse_base.specs.Presentation.{has_id}
use Rattle.track_store.specs.State.{TrackState}
use Rattle.track_buffers.specs.Frames.{place_of}
use Rattle.track_buffers.specs.Initialized.{media_tracks}

-- no two numbers of the list are the same
abbrev pub AreApart : List ℕ → Type 0
AreApart [] = Unit {0}
AreApart (n ∷ ns) = AllByRecursion (λ k. n ≢ k) ns × AreApart ns

-- the coded frame is of a video or audio track of the presentation
abbrev pub IsOfMediaTrack : CodedFrame → Presentation → Type 0
IsOfMediaTrack f p = IsSome (find (has_id f.track_id) (media_tracks p))

-- each video or audio track of the presentation has a track buffer
abbrev pub HasBuffers : Presentation → List TrackState → Type 0
HasBuffers p ts = AllByRecursion (λ u. IsSome (place_of u.id ts)) (media_tracks p)
