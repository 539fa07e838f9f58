-- Tracks that stay sound.
use Rattle.std.proofs.Common.{◌≡◌, ◌≤◌, ℕ, zero, suc, List, [], ◌∷◌, map, set, slice_get, Some, subst}
use Rattle.std.specs.Option.{IfSome}
use Rattle.std.specs.List.{AllByRecursion}
use Rattle.track_store.specs.State.{TrackState}
use Rattle.track_store.specs.Sound.{IsSound}
use Rattle.track_store.specs.declared.tracks.Track.{Track}
use Rattle.track_store.specs.Kept.{AreStillSound, IsCountable, HasSpareRoom}

pub still_same : (ts : List TrackState) → AreStillSound ts ts
still_same [] = tt
still_same (t ∷ ts) = ((λ h. h), still_same ts)

pub still_map : (f : TrackState → TrackState) (ts : List TrackState) → ((t : TrackState) → IsSound t → IsSound (f t)) → AreStillSound ts (map f ts)
still_map f [] keep = tt
still_map f (t ∷ ts) keep = (keep t, still_map f ts keep)

pub still_both : (ts us vs : List TrackState) → AreStillSound ts us → AreStillSound us vs → AreStillSound ts vs
still_both [] [] [] h k = tt
still_both [] [] (v ∷ vs) h k = absurd k
still_both [] (u ∷ us) vs h k = absurd h
still_both (t ∷ ts) [] vs h k = absurd h
still_both (t ∷ ts) (u ∷ us) [] h k = absurd k
still_both (t ∷ ts) (u ∷ us) (v ∷ vs) h k = ((λ sound. k.0 (h.0 sound)), still_both ts us vs h.1 k.1)

pub still_set : (ts : List TrackState) (i : ℕ) (t u : TrackState) → slice_get ts i ≡ Some t → (IsSound t → IsSound u) → AreStillSound ts (set ts i u)
still_set [] i t u e keep = tt
still_set (v ∷ ts) zero t u e keep = let same : v ≡ t = cc in ((λ h. keep (subst IsSound same h)), still_same ts)
still_set (v ∷ ts) (suc i) t u e keep = ((λ h. h), still_set ts i t u e keep)

pub all_still : (ts us : List TrackState) → AreStillSound ts us → AllByRecursion IsSound ts → AllByRecursion IsSound us
all_still [] [] h all = tt
all_still [] (u ∷ us) h all = absurd h
all_still (t ∷ ts) [] h all = absurd h
all_still (t ∷ ts) (u ∷ us) h all = (h.0 all.0, all_still ts us h.1 all.1)

pub sound_in : (ts : List TrackState) (i : ℕ) → AllByRecursion IsSound ts → IfSome (slice_get ts i) IsSound
sound_in [] i h = tt
sound_in (t ∷ ts) zero h = h.0
sound_in (t ∷ ts) (suc i) h = sound_in ts i h.1

pub counted_in : (ts : List TrackState) (i : ℕ) → AllByRecursion IsCountable ts → IfSome (slice_get ts i) IsCountable
counted_in [] i h = tt
counted_in (t ∷ ts) zero h = h.0
counted_in (t ∷ ts) (suc i) h = counted_in ts i h.1

pub room_in : {S : Type 0} (spare : S → ℕ) (n : ℕ) (ts : List (Track S)) (i : ℕ) → HasSpareRoom spare n ts → IfSome (slice_get ts i) (λ t. n ≤ spare t.store)
room_in spare n [] i h = tt
room_in spare n (t ∷ ts) zero h = h.0
room_in spare n (t ∷ ts) (suc i) h = room_in spare n ts i h.1
