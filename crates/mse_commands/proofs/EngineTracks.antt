-- The tracks of the one source buffer, as the engine shows them.
use Rattle.std.proofs.Common.{◌≡◌, ◌∙◌, ◌≤◌, ◌<◌, ℕ, zero, suc, Bool, List, [], ◌∷◌, length, slice_get, get_or, Option, Some, None, refl, sym, ap, subst, arith}
use Rattle.std.specs.Prelude.{OnErr, OnOk, Result, Ok, Err}
use Rattle.std.specs.Option.{IfSome}
use Rattle.std.specs.List.{AllByRecursion}
use Rattle.std.proofs.lemmas.List.{length-map}
use Rattle.mse_calls.specs.Ready.{is_ended}
use Rattle.mse_calls.specs.declared.views.BufferView.{BufferView}
use Rattle.mse_calls.specs.declared.views.View.{View}
use Rattle.track_store.specs.Sound.{IsSound}
use Rattle.track_store.specs.State.{TrackState}
use Rattle.track_buffers.specs.Media.{Media}
use Rattle.track_buffers.specs.Views.{track_view}
use Rattle.buffer_state.specs.Calls.{buffer_view}
use Rattle.source_buffers.specs.All.{AreSound, IsSoundSlot}
use Rattle.source_buffers.specs.Buffered.{slot_track, track_at}
use Rattle.source_buffers.specs.State.{BufferStates, all_kept_media, in_slot, media_of_all}
use Rattle.source_buffers.specs.Views.{views_from}
use Rattle.source_buffers.proofs.KeptParts.{same_media}
use Rattle.mse_engine.specs.State.{State}
use Rattle.mse_engine.specs.Standing.{KeptEngine, Stands}
use Rattle.mse_engine.specs.Views.{view_in}
use Rattle.script_run.specs.declared.stop.Halt.{Halt}
use Rattle.mse_commands.specs.Feeds.{tracks_in, tracks_of}

-- ---- how many there are

-- the numbers of buffers are not below that of the first slot
lower : (k : ℕ) (vs : List BufferView) → AllByRecursion (λ (v : BufferView). suc k ≤ v.number) vs → AllByRecursion (λ (v : BufferView). k ≤ v.number) vs
lower k [] h = tt
lower k (v ∷ vs) h = (omega (arith, h.0), lower k vs h.1)

above : (k : ℕ) (ended : Bool) (bs : BufferStates) → AllByRecursion (λ (v : BufferView). k ≤ v.number) (views_from k ended bs)
above k ended [] = tt
above k ended (None ∷ bs) = lower k (views_from (suc k) ended bs) (above (suc k) ended bs)
above k ended (Some b ∷ bs) = (omega arith, lower k (views_from (suc k) ended bs) (above (suc k) ended bs))

-- the tracks of the first view, where its number is 0; else there are none
count_first : (v : BufferView) (vs views : List BufferView) → AllByRecursion (λ (x : BufferView). 1 ≤ x.number) views → views ≡ v ∷ vs → v.number ≡ 0 → ⊥
count_first v vs [] h e z = cc
count_first v vs (w ∷ ws) h e z = let same : w ≡ v = cc in let low : 1 ≤ v.number = subst (λ (x : BufferView). 1 ≤ x.number) same h.0 in omega arith

count_in : (ended : Bool) (bs : BufferStates) (v : BufferView) (vs : List BufferView) → views_from 0 ended bs ≡ v ∷ vs → v.number ≡ 0 → length v.tracks ≡ length (tracks_of (in_slot 0 (media_of_all bs)))
count_in ended [] v vs e z = cc
count_in ended (None ∷ bs) v vs e z = absurd (count_first v vs (views_from 1 ended bs) (above 1 ended bs) e z)
count_in ended (Some b ∷ bs) v vs e z =
    let same : buffer_view 0 ended b.feed b.content ≡ v = cc in
    ap (λ (x : BufferView). length x.tracks) (sym same) ∙ length-map b.content.media.tracks (track_view b.content.media.gap)

none_in : (ended : Bool) (bs : BufferStates) (v : BufferView) (vs : List BufferView) → views_from 0 ended bs ≡ v ∷ vs → (v.number ≡ 0 → ⊥) → 0 ≡ length (tracks_of (in_slot 0 (media_of_all bs)))
none_in ended [] v vs e other = cc
none_in ended (None ∷ bs) v vs e other = refl
none_in ended (Some b ∷ bs) v vs e other = absurd (other (let same : buffer_view 0 ended b.feed b.content ≡ v = cc in ap (λ (x : BufferView). x.number) (sym same)))

empty_in : (ended : Bool) (bs : BufferStates) → views_from 0 ended bs ≡ [] → 0 ≡ length (tracks_of (in_slot 0 (media_of_all bs)))
empty_in ended [] e = refl
empty_in ended (None ∷ bs) e = refl
empty_in ended (Some b ∷ bs) e = cc

first_is : (v : BufferView) (views : List BufferView) → 1 ≤ length views → v ≡ get_or views 0 v → (vs : List BufferView) × (views ≡ v ∷ vs)
first_is v [] some is = absurd (omega arith)
first_is v (w ∷ ws) some is = (ws, ap (λ (x : BufferView). x ∷ ws) (sym is))

pub counted : (st : State) (view : View) (v : BufferView) (count : ℕ) → view ≡ view_in st → 1 ≤ length view.buffers → v ≡ get_or view.buffers 0 v → v.number ≡ 0 → count ≡ length v.tracks → count ≡ length (tracks_in st)
counted st view v count is some first zero_ len =
    let rest = first_is v view.buffers some first in
    len ∙ count_in (is_ended st.source.state.ready) st.buffers v rest.0 (sym (ap (λ (x : View). x.buffers) is) ∙ rest.1) zero_

pub none_counted : (st : State) (view : View) (v : BufferView) → view ≡ view_in st → 1 ≤ length view.buffers → v ≡ get_or view.buffers 0 v → (v.number ≡ 0 → ⊥) → 0 ≡ length (tracks_in st)
none_counted st view v is some first other =
    let rest = first_is v view.buffers some first in
    none_in (is_ended st.source.state.ready) st.buffers v rest.0 (sym (ap (λ (x : View). x.buffers) is) ∙ rest.1) other

empty_list : {X : Type 0} (xs : List X) → length xs < 1 → xs ≡ []
empty_list [] h = refl
empty_list (x ∷ xs) h = absurd (omega arith)

pub no_buffers : (st : State) (view : View) → view ≡ view_in st → length view.buffers < 1 → 0 ≡ length (tracks_in st)
no_buffers st view is few = empty_in (is_ended st.source.state.ready) st.buffers (sym (ap (λ (x : View). x.buffers) is) ∙ empty_list view.buffers few)

-- ---- a track

slot_is : (i : ℕ) (o : Option Media) → slot_track i o ≡ slice_get (tracks_of o) i
slot_is i None = refl
slot_is i (Some m) = refl

-- the track of what is kept is that of the state
pub track_is : (k : KeptEngine) (st : State) (i : ℕ) → Stands k st → track_at 0 i (all_kept_media k.buffers) ≡ slice_get (tracks_in st) i
track_is k st i stands = ap (λ ms. track_at 0 i ms) (same_media k.buffers st.buffers stands.buffers) ∙ slot_is i (in_slot 0 (media_of_all st.buffers))

each_sound : (ts : List TrackState) (i : ℕ) (t : TrackState) → AllByRecursion IsSound ts → slice_get ts i ≡ Some t → IsSound t
each_sound [] i t h e = cc
each_sound (x ∷ ts) zero t h e = let same : x ≡ t = cc in subst IsSound same h.0
each_sound (x ∷ ts) (suc i) t h e = each_sound ts i t h.1 e

sound_slot : (o : Option Media) (i : ℕ) (t : TrackState) → IsSoundSlot o → slot_track i o ≡ Some t → IsSound t
sound_slot None i t h e = cc
sound_slot (Some m) i t h e = each_sound m.tracks i t h.0 e

pub sound_track : (ms : List (Option Media)) (i : ℕ) (t : TrackState) → AreSound ms → track_at 0 i ms ≡ Some t → IsSound t
sound_track [] i t h e = cc
sound_track (o ∷ ms) i t h e = sound_slot o i t h.0 e

-- what was put is of that track
pub there : (k : KeptEngine) (st : State) (i : ℕ) (t : TrackState) (P : TrackState → Type 0) → Stands k st → Some t ≡ track_at 0 i (all_kept_media k.buffers) → P t → IfSome (slice_get (tracks_in st) i) P
there k st i t P stands is p = subst (λ (o : Option TrackState). IfSome o P) (is ∙ track_is k st i stands) p

pub not_there : (k : KeptEngine) (st : State) (i : ℕ) (P : TrackState → Type 0) → Stands k st → None ≡ track_at 0 i (all_kept_media k.buffers) → IfSome (slice_get (tracks_in st) i) P
not_there k st i P stands is = subst (λ (o : Option TrackState). IfSome o P) (is ∙ track_is k st i stands) tt

pub ok_there : (k : KeptEngine) (st : State) (i : ℕ) (t : TrackState) (P : TrackState → Type 0) (r : Result (Unit {0}) Halt) → Stands k st → Some t ≡ track_at 0 i (all_kept_media k.buffers) → OnOk r (P t) → OnOk r (IfSome (slice_get (tracks_in st) i) P)
ok_there k st i t P (Ok u) stands is p = there k st i t P stands is p
ok_there k st i t P (Err e) stands is p = tt

pub err_there : (k : KeptEngine) (st : State) (i : ℕ) (t : TrackState) (P : TrackState → Type 0) (r : Result (Unit {0}) Halt) → Stands k st → Some t ≡ track_at 0 i (all_kept_media k.buffers) → OnErr r (P t) → OnErr r (IfSome (slice_get (tracks_in st) i) P)
err_there k st i t P (Ok u) stands is p = tt
err_there k st i t P (Err e) stands is p = there k st i t P stands is p

-- a track that is counted is there
pub held : (ts : List TrackState) (i : ℕ) → i < length ts → (t : TrackState) × (slice_get ts i ≡ Some t)
held [] i h = absurd (omega arith)
held (t ∷ ts) zero h = (t, refl)
held (t ∷ ts) (suc i) h = held ts i (omega arith)
