-- One track of several is written.
use Rattle.std.proofs.Common.{◌≡◌, ℕ, List, set, slice_get, Option, Some, None, refl, sym, ap, ◌∙◌, zero, suc, [], ◌∷◌}
use Rattle.std.specs.Option.{IfSome, option_map}
use Rattle.std.proofs.lemmas.List.{map-set}
use Rattle.std.proofs.lemmas.Option.{slice_get-map}
use Rattle.mse_base.specs.declared.track.TrackInfo.{TrackInfo}
use Rattle.track_store.specs.declared.store.Stored.{Stored}
use Rattle.track_store.specs.declared.tracks.Track.{Track}
use Rattle.track_store.specs.State.{TrackState, state_of, states_of}
use Rattle.track_buffers.specs.Initialized.{partner_of, track_with_partner}
use Rattle.track_buffers.proofs.Loops.{set_itself}

pub if_there : {S : Type 0} (frames : S → List Stored) (P : TrackState → Type 0) (ts : List (Track S)) (i : ℕ) (t : Track S) → slice_get ts i ≡ Some t → P (state_of frames t) → IfSome (slice_get (states_of frames ts) i) P
if_there frames P ts i t here h = rw (slice_get-map (state_of frames) ts i, here) h

pub not_there : {S : Type 0} (frames : S → List Stored) (P : TrackState → Type 0) (ts : List (Track S)) (i : ℕ) → slice_get ts i ≡ None → IfSome (slice_get (states_of frames ts) i) P
not_there frames P ts i here = rw (slice_get-map (state_of frames) ts i, here) tt

pub states_set : {S : Type 0} (frames : S → List Stored) (ts : List (Track S)) (i : ℕ) (u : Track S) (x : TrackState) → state_of frames u ≡ x → states_of frames (set ts i u) ≡ set (states_of frames ts) i x
states_set frames ts i u x same = map-set (state_of frames) ts i u ∙ ap (λ (t : TrackState). set (states_of frames ts) i t) same

pub edited : {S : Type 0} (frames : S → List Stored) (f : TrackState → TrackState) (ts : List (Track S)) (i : ℕ) (t u : Track S) → slice_get ts i ≡ Some t → state_of frames u ≡ f (state_of frames t) → IfSome (slice_get (states_of frames ts) i) (λ s. states_of frames (set ts i u) ≡ set (states_of frames ts) i (f s))
edited frames f ts i t u here same = if_there frames (λ s. states_of frames (set ts i u) ≡ set (states_of frames ts) i (f s)) ts i t here (states_set frames ts i u (f (state_of frames t)) same)

-- where it looks as before, all do
pub unedited : {S : Type 0} (frames : S → List Stored) (ts : List (Track S)) (i : ℕ) (t u : Track S) → slice_get ts i ≡ Some t → state_of frames u ≡ state_of frames t → states_of frames (set ts i u) ≡ states_of frames ts
unedited frames ts i t u here same = states_set frames ts i u (state_of frames t) same ∙ set_itself (states_of frames ts) i (state_of frames t) (slice_get-map (state_of frames) ts i ∙ ap (option_map (state_of frames)) here)

-- by the partner that was found
pub renewed_some : (ts us : List TrackState) (news : List TrackInfo) (i : ℕ) (p : Option TrackInfo) (o : Option TrackState) → IfSome o (λ t. p ≡ partner_of ts news t) → IfSome o (λ t. us ≡ set ts i (track_with_partner t p)) → IfSome o (λ t. us ≡ set ts i (track_with_partner t (partner_of ts news t)))
renewed_some ts us news i p None own h = h
renewed_some ts us news i p (Some t) own h = h ∙ ap (λ (q : Option TrackInfo). set ts i (track_with_partner t q)) own

renewed_kept : (ts : List TrackState) (i : ℕ) (o : Option TrackState) → slice_get ts i ≡ o → IfSome o (λ t. ts ≡ set ts i (track_with_partner t None))
renewed_kept ts i None here = tt
renewed_kept ts i (Some t) here = sym (set_itself ts i t here)

pub renewed_none : (ts : List TrackState) (i : ℕ) → IfSome (slice_get ts i) (λ t. ts ≡ set ts i (track_with_partner t None))
renewed_none ts i = renewed_kept ts i (slice_get ts i) refl

pub get_set : {X : Type 0} (xs : List X) (i : ℕ) (x y : X) → slice_get xs i ≡ Some x → slice_get (set xs i y) i ≡ Some y
get_set [] i x y e = absurd cc
get_set (z ∷ xs) zero x y e = refl
get_set (z ∷ xs) (suc i) x y e = get_set xs i x y e
