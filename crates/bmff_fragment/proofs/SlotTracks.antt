-- Each slot of a plan is of a video or audio track of the presentation.
use Rattle.std.proofs.Common.{◌≡◌, ℕ, ◌+◌, ℤ, pos, Bool, true, false, cond, List, [], ◌∷◌, ◌++◌, length, map, Option, Some, Result, Ok, Err, refl, ap, sym, subst, ◌∙◌, eqb, eqb-true}
use Rattle.std.specs.Prelude.{IsSomeAnd, IsTrue, is_none}
use Rattle.std.specs.List.{All, find, enumerate_from}
use Rattle.std.proofs.lemmas.List.Elements.{All-nil, All-cons, All-append, All-weaker, All-same}
use lib.Chars.{codes}
use Rattle.mse_base.specs.declared.track.TrackInfo.{TrackInfo}
use Rattle.mse_base.specs.Presentation.{has_id}
use Rattle.bmff_boxes.specs.Rows.{BoxView, row_of, first_of, all_of}
use Rattle.bmff_boxes.specs.FragmentFields.{tfdt_time_of}
use Rattle.bmff_fragment.specs.declared.fault.MoofFault.{MoofFault}
use Rattle.bmff_fragment.specs.declared.fault.MoofFault.TheVariants.{Size, NoTfhd, NoTfdt, BaseOffset, UnknownTrack}
use Rattle.bmff_fragment.specs.declared.track_fragment.TrackFragment.{TrackFragment}
use Rattle.bmff_fragment.specs.declared.sample.FragmentSample.{FragmentSample}
use Rattle.bmff_fragment.specs.declared.slot.Slot.{Slot}
use Rattle.bmff_fragment.specs.Headers.{track_fragment_header_of}
use Rattle.bmff_fragment.specs.Times.{Run, duration_of, slot_of, slot_at, slots_of_run, slots_behind}
use Rattle.bmff_boxes.specs.Reading.{need, check}
use Rattle.mse_base.specs.Moments.{is_media}
use Rattle.bmff_fragment.specs.Plans.{track_with_id, track_fragment_of, runs_of, samples_in, data_end, media_slots, trafs_of}
use Rattle.bmff_fragment.specs.Slots.{IsWellFormed, IsSlotOf}
use Rattle.bmff_boxes.proofs.ReadingLaws.{through, needed}
use Rattle.bmff_fragment.proofs.PlanByRuns.{trafs_more, trafs_none}

-- ---- the track of a fragment

own_by : (id : ℕ) (x y : TrackInfo) (b : Bool) (rest : Option TrackInfo) → eqb y.id id ≡ b → cond b (Some y) rest ≡ Some x → (rest ≡ Some x → x.id ≡ id) → x.id ≡ id
own_by id x y true rest e f h = let k : y ≡ x = cc in ap (λ (z : TrackInfo). z.id) (sym k) ∙ eqb-true y.id id e
own_by id x y false rest e f h = h f

-- a track that is found has the number that was sought
own_id : (id : ℕ) (tracks : List TrackInfo) (x : TrackInfo) → find (has_id id) tracks ≡ Some x → x.id ≡ id
own_id id [] x e = absurd (cc)
own_id id (y ∷ ys) x e = own_by id x y (eqb y.id id) (find (has_id id) ys) refl e (own_id id ys x)

found_again : (tracks : List TrackInfo) (id : ℕ) (x : TrackInfo) → track_with_id tracks id ≡ Some x → track_with_id tracks x.id ≡ Some x
found_again tracks id x e = ap (track_with_id tracks) (own_id id tracks x e) ∙ e

-- the track of a track fragment is the one of its number
track_known : (tracks : List TrackInfo) (end : ℤ) (row : List BoxView) (f : TrackFragment) → track_fragment_of tracks end row ≡ Ok f → track_with_id tracks f.track.id ≡ Some f.track
unfolding track_fragment_of
track_known tracks end row f e =
    let a = through (need NoTfhd (first_of (codes "tfhd") row)) _ f e in
    let b = through (need Size (track_fragment_header_of a.value)) _ f a.then in
    let c = through (check BaseOffset (is_none b.value.base_data_offset)) _ f b.then in
    let d = through (need UnknownTrack (track_with_id tracks b.value.track_id)) _ f c.then in
    let g = through (need NoTfdt (first_of (codes "tfdt") row)) _ f d.then in
    let h = through (need Size (tfdt_time_of g.value)) _ f g.then in
    let k : d.value ≡ f.track = ap track_in h.then in
    let P : TrackInfo → Type 0 = λ t. track_with_id tracks t.id ≡ Some t in
    subst P k (found_again tracks b.value.track_id d.value (needed UnknownTrack (track_with_id tracks b.value.track_id) d.value d.was))
  where
    track_in : Result TrackFragment MoofFault → TrackInfo
    track_in (Ok g) = g.track
    track_in (Err fault) = f.track

-- ---- the track of each slot

slot_track : (track : TrackInfo) (time start : ℕ) (s : FragmentSample) → (slot_of track time start s).track_id ≡ track.id
unfolding slot_of
slot_track track time start s = refl

run_tracks : (track : TrackInfo) (time : ℕ) (run : Run) (pairs : List (ℕ × FragmentSample)) → All (λ (s : Slot). s.track_id ≡ track.id) (map (slot_at track time run) pairs)
run_tracks track time run [] = All-nil (λ (s : Slot). s.track_id ≡ track.id)
run_tracks track time run ((k, s) ∷ pairs) = All-cons (λ (s : Slot). s.track_id ≡ track.id) (slot_at track time run (k, s)) (map (slot_at track time run) pairs) (slot_track track _ _ s) (run_tracks track time run pairs)

runs_tracks : (track : TrackInfo) (time : ℕ) (before : List FragmentSample) (runs : List Run) → All (λ (s : Slot). s.track_id ≡ track.id) (slots_behind track time before runs)
runs_tracks track time before [] = All-nil (λ (s : Slot). s.track_id ≡ track.id)
runs_tracks track time before (run ∷ runs) =
    All-append (λ (s : Slot). s.track_id ≡ track.id) (slots_of_run track (time + duration_of before) run) (slots_behind track time (before ++ run.samples) runs)
    (run_tracks track (time + duration_of before) run (enumerate_from 0 run.samples)) (runs_tracks track time (before ++ run.samples) runs)

abbrev pub IsMedia : List TrackInfo → Slot → Type 0
IsMedia tracks s = IsSomeAnd (track_with_id tracks s.track_id) (λ t. IsTrue (is_media t.kind))

media_by : (tracks : List TrackInfo) (track : TrackInfo) (slots : List Slot) (b : Bool) → is_media track.kind ≡ b → track_with_id tracks track.id ≡ Some track → All (λ (s : Slot). s.track_id ≡ track.id) slots → All (IsMedia tracks) (cond b slots [])
media_by tracks track slots false m e h = All-nil (IsMedia tracks)
media_by tracks track slots true m e h =
    let P : Option TrackInfo → Type 0 = λ o. IsSomeAnd o (λ t. IsTrue (is_media t.kind)) in
    All-weaker (λ (s : Slot). s.track_id ≡ track.id) (IsMedia tracks) (λ s k. subst P (sym (ap (track_with_id tracks) k ∙ e)) m) slots h

abbrev slots_in : Result (List Slot) MoofFault → List Slot
slots_in (Ok slots) = slots
slots_in (Err fault) = []

pub media_trafs : (tracks : List TrackInfo) (count : ℕ) (end : ℤ) (trafs : List (List ℕ)) (slots : List Slot) → trafs_of tracks count end trafs ≡ Ok slots → All (IsMedia tracks) slots
media_trafs tracks count end [] slots e =
    let k : [] ≡ slots = let n = trafs_none tracks count end in cc in
    All-same (IsMedia tracks) slots [] (sym k) (All-nil (IsMedia tracks))
media_trafs tracks count end (t ∷ ts) slots e =
    let a = through (need Size (row_of t)) _ slots (sym (trafs_more tracks count end t ts) ∙ e) in
    let b = through (track_fragment_of tracks end a.value) _ slots a.then in
    let f = b.value in
    let c = through (runs_of f count f.base (all_of (codes "trun") a.value)) _ slots b.then in
    let d = through (trafs_of tracks (count + length (samples_in c.value)) (data_end f.base c.value) ts) _ slots c.then in
    let own = slots_behind f.track f.decode_time [] c.value in
    let k : slots ≡ media_slots f.track own ++ d.value = sym (ap slots_in d.then) in
    All-same (IsMedia tracks) slots (media_slots f.track own ++ d.value) k
    (All-append (IsMedia tracks) (media_slots f.track own) d.value
    (media_by tracks f.track own (is_media f.track.kind) refl (track_known tracks end a.value f b.was) (runs_tracks f.track f.decode_time [] c.value))
    (media_trafs tracks (count + length (samples_in c.value)) (data_end f.base c.value) ts d.value d.was))

-- each slot of a plan is of a track of the presentation, and lies where it should
pub belong : (tracks : List TrackInfo) (trafs : List (List ℕ)) (slots : List Slot) → trafs_of tracks 0 (pos 0) trafs ≡ Ok slots → All IsWellFormed slots → All (IsSlotOf tracks) slots
belong tracks trafs slots e h = λ k d l. record { well_formed = h k d l; media = media_trafs tracks 0 (pos 0) trafs slots e k d l }
