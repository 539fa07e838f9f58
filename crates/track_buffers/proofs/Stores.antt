-- The stores of tracks, by which the gaps and the room are told.
use Rattle.std.proofs.Common.{◌≡◌, ◌∙◌, ℕ, ℤ, zero, suc, ◌+◌, ◌<◌, ◌≤◌, ◌==◌, true, false, List, [], ◌∷◌, length, map, take, filter, get_or, set, slice_get, Some, refl, sym, ap, arith}
use Rattle.std.proofs.lemmas.List.{length-append}
use Rattle.std.proofs.lemmas.Simd.{map-map}
use Rattle.mse_base.specs.declared.track.TrackInfo.{TrackInfo}
use Rattle.track_store.specs.declared.store.Stored.{Stored}
use Rattle.track_store.specs.declared.tracks.Track.{Track}
use Rattle.track_store.specs.Kept.{gaps_of}
use Rattle.track_store.specs.State.{states_of, stores_of}
use Rattle.track_buffers.specs.Media.{is_empty_list, least_room, room_of}
use Rattle.track_buffers.specs.Initialized.{is_media_track}
use Rattle.track_buffers.proofs.KeptTracks.{media_more}

-- one track is written, and not its store
pub stores_set : {S : Type 0} (ts : List (Track S)) (i : ℕ) (t u : Track S) → slice_get ts i ≡ Some t → u.store ≡ t.store → stores_of (set ts i u) ≡ stores_of ts
stores_set [] i t u e h = refl
stores_set (v ∷ ts) zero t u e h = let same : v ≡ t = cc in ap (λ s. s ∷ stores_of ts) (h ∙ ap (λ (x : Track _). x.store) (sym same))
stores_set (v ∷ ts) (suc i) t u e h = ap (λ rest. v.store ∷ rest) (stores_set ts i t u e h)

-- the gaps and the room are those of the stores
pub gaps_by_stores : {S : Type 0} (gap : S → ℤ) (ts us : List (Track S)) → stores_of us ≡ stores_of ts → gaps_of gap us ≡ gaps_of gap ts
gaps_by_stores gap ts us e = sym (map-map gap (λ (t : Track _). t.store) us) ∙ ap (map gap) e ∙ map-map gap (λ (t : Track _). t.store) ts

pub room_by_stores : {S : Type 0} (spare : S → ℕ) (ts us : List (Track S)) → stores_of us ≡ stores_of ts → room_of spare us ≡ room_of spare ts
room_by_stores spare ts us e = ap least_room (sym (map-map spare (λ (t : Track _). t.store) us) ∙ ap (map spare) e ∙ map-map spare (λ (t : Track _). t.store) ts)

-- where there is a track, there is a state of one
pub state_there : {S : Type 0} (frames : S → List Stored) (ts : List (Track S)) (n : ℕ) → n ≡ length ts → (n == 0) ≡ false → is_empty_list (states_of frames ts) ≡ false
state_there frames [] n e h = absurd (let yes : (n == 0) ≡ true = ap (λ k. k == 0) e in cc)
state_there frames (t ∷ ts) n e h = refl

-- ---- places for tracks

media_so_far : (us : List TrackInfo) (i : ℕ) (u : TrackInfo) → i < length us → u ≡ get_or us i u → length (filter is_media_track (take (i + 1) us)) ≡ length (filter is_media_track (take i us)) + length (filter is_media_track (u ∷ []))
media_so_far us i u low e = ap length (media_more us i u low e) ∙ length-append (filter is_media_track (take i us)) (filter is_media_track (u ∷ []))

-- a track takes its places, behind those that others took
pub places_taken : (us : List TrackInfo) (i : ℕ) (u : TrackInfo) (old so_far left : ℕ) → i < length us → u ≡ get_or us i u → old ≤ so_far + length (filter is_media_track (take i us)) → so_far ≤ left + length (filter is_media_track (u ∷ [])) → old ≤ left + length (filter is_media_track (take (i + 1) us))
places_taken us i u old so_far left low e h k = let both = media_so_far us i u low e in omega arith
