-- What every presentation that is read has: distinct numbers, shifts in range, at most 64 tracks, and a duration.
use Rattle.std.proofs.Common.{◌≡◌, ◌≢◌, ℕ, ◌+◌, ◌≤◌, ◌^◌, ◌==◌, Bool, true, false, cond, if◌then◌else◌, not, ◌&&◌, ◌||◌, int_le, ℤ, pos, ◌≤ℤ◌, List, [], ◌∷◌, ◌++◌, length, drop, Option, Some, None, Result, Ok, Err, IfOk, refl, ◌∙◌, subst, arith}
use Rattle.std.specs.Prelude.{nat_le}
use Rattle.std.specs.List.{AllByRecursion, list_any, prefix_len}
use Rattle.std.proofs.lemmas.Int.{ints}
use Rattle.std.proofs.lemmas.List.{length-append}
use Rattle.std.proofs.lemmas.Bool.Decides.{nat_tests}
use lib.Chars.{codes}
use Rattle.mse_base.specs.Time.{media_ticks}
use Rattle.mse_base.specs.Presentation.{has_id, IsReadable, HasDistinctIds, IsPresentation}
use Rattle.mse_base.specs.declared.ticks.Moment.TheVariants.{Nan, At, Infinite}
use Rattle.mse_base.specs.declared.track.Kind.{Kind}
use Rattle.mse_base.specs.declared.track.Kind.TheVariants.{Video, Audio, Other}
use Rattle.mse_base.specs.declared.track.TrackInfo.{TrackInfo}
use Rattle.mse_base.specs.declared.track.Presentation.{Presentation}
use Rattle.bmff_boxes.specs.declared.entries.EditEntry.{EditEntry}
use Rattle.bmff_boxes.specs.MovieFields.{mdhd_scale_of, tkhd_track_of}
use Rattle.bmff_boxes.specs.Rows.{BoxView, row_of, first_of, all_of}
use Rattle.bmff_boxes.proofs.ReadingLaws.{through, checked}
use Rattle.bmff_init.specs.declared.fault.InitFault.{InitFault}
use Rattle.bmff_init.specs.declared.fault.InitFault.TheVariants.{Size, Missing, EditList, ZeroTimescale, DuplicateTrack, TooManyTracks}
use Rattle.bmff_boxes.specs.declared.reading.ReadError.{ReadError}
use Rattle.bmff_init.specs.declared.form.Form.{Form}
use Rattle.bmff_init.specs.declared.edits.Shifts.{Shifts}
use Rattle.bmff_init.specs.declared.track.TrackContent.{TrackContent}
use Rattle.bmff_boxes.specs.Children.{payload_of}
use Rattle.bmff_boxes.specs.Reading.{◌>>=◌, need, check}
use Rattle.bmff_boxes.specs.Reading.{Gives}
use Rattle.bmff_init.specs.Edits.{elst_edits_of, is_empty_edit, is_media_edit, media_time_of, empty_duration, empty_shift_of, both_shifts, shifts_by, shifts_in_list, shifts_in}
use Rattle.bmff_init.specs.Tracks.{media_scale_of, codec_in, media_content, content_of, track_number_of, mdia_row_of, kind_in, track_with, track_of_trak, tracks_of_traks}
use Rattle.bmff_init.specs.Movies.{moment_of, times_of, extends_of, presentation_in, moov_presentation_of}
use Rattle.bmff_init.proofs.TimeLaws.{converted-is}

-- ---- the parts of a reading that gave a value

same_ok : {A : Type 0} (x y : A) (r : Result A InitFault) → r ≡ Ok x → r ≡ Ok y → x ≡ y
same_ok x y r e h = cc

not_zero : (n : ℕ) → not (n == 0) ≡ true → 1 ≤ n
not_zero n e = grind (arith, nat_tests)

-- ---- the shifts of a track

pub record AreShiftsInRange (shifts : Shifts) : Type 0 where
  pub media : pos 0 ≤ℤ shifts.media
  pub low : pos 0 ≤ℤ shifts.empty
  pub high : shifts.empty ≤ℤ pos (2 ^ 109)

none_in_range : (shifts : Shifts) → record { media = pos 0; empty = pos 0 } ≡ shifts → AreShiftsInRange shifts
none_in_range shifts e = subst AreShiftsInRange e (record { media = omega (arith, ints); low = omega (arith, ints); high = omega (arith, ints) })

first_of_both : (a b : Bool) → (a && b) ≡ true → a ≡ true
first_of_both true b e = refl
first_of_both false b e = absurd (cc)

abbrev when : Bool → ℤ → Result ℤ InitFault
when t z = cond t (Ok z) (Err EditList)

media_by : (edit : EditEntry) (media : ℤ) (t : Bool) → is_media_edit edit ≡ t → when t edit.media_time ≡ Ok media → pos 0 ≤ℤ media
media_by edit media true e h =
    let is : edit.media_time ≡ media = cc in
    let le : int_le (pos 0) edit.media_time ≡ true = first_of_both _ _ e in
    let here : pos 0 ≤ℤ edit.media_time = grind (arith, ints) in
    subst (λ z. pos 0 ≤ℤ z) is here
media_by edit media false e h = absurd (cc)

media_in_range : (edits : List EditEntry) (media : ℤ) → media_time_of edits ≡ Ok media → pos 0 ≤ℤ media
media_in_range [] media e = absurd (cc)
media_in_range (edit ∷ []) media e = media_by edit media _ refl e
media_in_range (edit ∷ next ∷ edits) media e = absurd (cc)

empty_in_range : (scale duration : ℕ) (empty : ℤ) → empty_shift_of scale duration ≡ Ok empty → (pos 0 ≤ℤ empty) × (empty ≤ℤ pos (2 ^ 109))
empty_in_range scale duration empty e =
    let b = through (check EditList (int_le (media_ticks (pos duration) scale) (pos (2 ^ 109)))) (λ _. Ok (media_ticks (pos duration) scale)) empty e in
    let le = checked EditList _ _ b.was in
    let is : media_ticks (pos duration) scale ≡ empty = same_ok _ _ (Ok (media_ticks (pos duration) scale)) refl b.then in
    let high : media_ticks (pos duration) scale ≤ℤ pos (2 ^ 109) = grind (arith, ints, le) in
    let low : pos 0 ≤ℤ media_ticks (pos duration) scale = rw (converted-is duration scale) (omega (arith, ints)) in
    subst (λ z. (pos 0 ≤ℤ z) × (z ≤ℤ pos (2 ^ 109))) is (low, high)

with_in_range : (edits : List EditEntry) (scale duration : ℕ) (shifts : Shifts) → both_shifts (media_time_of edits) (empty_shift_of scale duration) ≡ Ok shifts → AreShiftsInRange shifts
with_in_range edits scale duration shifts e =
    let m = through (media_time_of edits) (λ media. empty_shift_of scale duration >>= λ empty. Ok (record { media = media; empty = empty })) shifts e in
    let s = through (empty_shift_of scale duration) (λ empty. Ok (record { media = m.value; empty = empty })) shifts m.then in
    let range = empty_in_range scale duration s.value s.was in
    let all : AreShiftsInRange (record { media = m.value; empty = s.value }) = record { media = media_in_range edits m.value m.was; low = range.0; high = range.1 } in
    subst AreShiftsInRange (same_ok _ _ (Ok (record { media = m.value; empty = s.value })) refl s.then) all

by_in_range : (scale : ℕ) (edits : List EditEntry) (shifts : Shifts) → shifts_by scale edits ≡ Ok shifts → AreShiftsInRange shifts
by_in_range scale [] shifts e = none_in_range shifts (same_ok _ _ (Ok (record { media = pos 0; empty = pos 0 })) refl e)
by_in_range scale (edit ∷ edits) shifts e = with_in_range (drop (prefix_len is_empty_edit (edit ∷ edits)) (edit ∷ edits)) scale (empty_duration (edit ∷ edits)) shifts e

list_in_range : (scale : ℕ) (elst : Option (List ℕ)) (shifts : Shifts) → shifts_in_list scale elst ≡ Ok shifts → AreShiftsInRange shifts
list_in_range scale None shifts e = none_in_range shifts (same_ok _ _ (Ok (record { media = pos 0; empty = pos 0 })) refl e)
list_in_range scale (Some elst) shifts e = let b = through (elst_edits_of elst) (shifts_by scale) shifts e in by_in_range scale b.value shifts b.then

shifts_in_range : (scale : ℕ) (edts : Option (List ℕ)) (shifts : Shifts) → shifts_in scale edts ≡ Ok shifts → AreShiftsInRange shifts
shifts_in_range scale None shifts e = none_in_range shifts (same_ok _ _ (Ok (record { media = pos 0; empty = pos 0 })) refl e)
shifts_in_range scale (Some edts) shifts e =
    let b = through (need Size (row_of edts)) (λ boxes. shifts_in_list scale (first_of (codes "elst") boxes)) shifts e in
    list_in_range scale (first_of (codes "elst") b.value) shifts b.then

-- ---- a track

pub record IsContentInRange (content : TrackContent) : Type 0 where
  pub scale : 1 ≤ content.scale
  pub media : pos 0 ≤ℤ content.media_shift
  pub low : pos 0 ≤ℤ content.empty_shift
  pub high : content.empty_shift ≤ℤ pos (2 ^ 109)

scale_in_range : (media : List BoxView) (scale : ℕ) → media_scale_of media ≡ Ok scale → 1 ≤ scale
scale_in_range media scale e =
    let a = through (need (Missing (codes "mdhd")) (first_of (codes "mdhd") media)) (λ mdhd. need Size (mdhd_scale_of mdhd) >>= λ s. check ZeroTimescale (not (s == 0)) >>= λ _. Ok s) scale e in
    let b = through (need Size (mdhd_scale_of a.value)) (λ s. check ZeroTimescale (not (s == 0)) >>= λ _. Ok s) scale a.then in
    let c = through (check ZeroTimescale (not (b.value == 0))) (λ _. Ok b.value) scale b.then in
    let some : 1 ≤ b.value = not_zero b.value (checked ZeroTimescale _ _ c.was) in
    subst (λ n. 1 ≤ n) (same_ok _ _ (Ok b.value) refl c.then) some

media_fits : (form : Form) (scale : ℕ) (track media : List BoxView) (content : TrackContent) → media_content form scale track media ≡ Ok content → IsContentInRange content
unfolding media_content
media_fits form scale track media content e =
    let a = through (media_scale_of media) (λ s. codec_in form media >>= λ codec. shifts_in scale (first_of (codes "edts") track) >>= λ shifts. Ok (record { codec = codec; scale = s; media_shift = shifts.media; empty_shift = shifts.empty })) content e in
    let b = through (codec_in form media) (λ codec. shifts_in scale (first_of (codes "edts") track) >>= λ shifts. Ok (record { codec = codec; scale = a.value; media_shift = shifts.media; empty_shift = shifts.empty })) content a.then in
    let c = through (shifts_in scale (first_of (codes "edts") track)) (λ shifts. Ok (record { codec = b.value; scale = a.value; media_shift = shifts.media; empty_shift = shifts.empty })) content b.then in
    let range = shifts_in_range scale (first_of (codes "edts") track) c.value c.was in
    let all : IsContentInRange (record { codec = b.value; scale = a.value; media_shift = c.value.media; empty_shift = c.value.empty }) = record { scale = scale_in_range media a.value a.was; media = range.media; low = range.low; high = range.high } in
    subst IsContentInRange (same_ok _ _ (Ok (record { codec = b.value; scale = a.value; media_shift = c.value.media; empty_shift = c.value.empty })) refl c.then) all

content_fits : (form : Form) (scale : ℕ) (kind : Kind) (track media : List BoxView) (content : TrackContent) → content_of form scale kind track media ≡ Ok content → IsContentInRange content
content_fits form scale Other track media content e =
    let none : TrackContent = record { codec = 0 ∷ 0 ∷ 0 ∷ 0 ∷ []; scale = 1; media_shift = pos 0; empty_shift = pos 0 } in
    let all : IsContentInRange none = record { scale = omega arith; media = omega (arith, ints); low = omega (arith, ints); high = omega (arith, ints) } in
    subst IsContentInRange (same_ok _ _ (Ok none) refl e) all
content_fits form scale Video track media content e = media_fits form scale track media content e
content_fits form scale Audio track media content e = media_fits form scale track media content e

not_taken : (t : Bool) → not t ≡ true → t ≡ false
not_taken true e = absurd (cc)
not_taken false e = refl

new_number : (before : List TrackInfo) (track : List BoxView) (id : ℕ) → track_number_of before track ≡ Ok id → list_any (has_id id) before ≡ false
new_number before track id e =
    let a = through (need (Missing (codes "tkhd")) (first_of (codes "tkhd") track)) (λ tkhd. need Size (tkhd_track_of tkhd) >>= λ n. check DuplicateTrack (not (list_any (has_id n) before)) >>= λ _. Ok n) id e in
    let b = through (need Size (tkhd_track_of a.value)) (λ n. check DuplicateTrack (not (list_any (has_id n) before)) >>= λ _. Ok n) id a.then in
    let c = through (check DuplicateTrack (not (list_any (has_id b.value) before))) (λ _. Ok b.value) id b.then in
    let fresh = not_taken _ (checked DuplicateTrack _ _ c.was) in
    subst (λ n. list_any (has_id n) before ≡ false) (same_ok _ _ (Ok b.value) refl c.then) fresh

-- what a track has that comes behind others
pub record IsNewAndReadable (before : List TrackInfo) (track : TrackInfo) : Type 0 where
  pub readable : IsReadable track
  pub fresh : list_any (has_id track.id) before ≡ false

track_joins : (form : Form) (scale : ℕ) (trexes : List (List ℕ)) (before : List TrackInfo) (trak : List ℕ) (track : TrackInfo) → track_of_trak form scale trexes before trak ≡ Ok track → IsNewAndReadable before track
unfolding track_of_trak
track_joins form scale trexes before trak track e =
    let a = through (need Size (row_of trak)) (λ boxes. track_number_of before boxes >>= λ id. mdia_row_of boxes >>= λ media. kind_in media >>= λ kind. content_of form scale kind boxes media >>= λ content. Ok (track_with trexes id kind content)) track e in
    let b = through (track_number_of before a.value) (λ id. mdia_row_of a.value >>= λ media. kind_in media >>= λ kind. content_of form scale kind a.value media >>= λ content. Ok (track_with trexes id kind content)) track a.then in
    let c = through (mdia_row_of a.value) (λ media. kind_in media >>= λ kind. content_of form scale kind a.value media >>= λ content. Ok (track_with trexes b.value kind content)) track b.then in
    let d = through (kind_in c.value) (λ kind. content_of form scale kind a.value c.value >>= λ content. Ok (track_with trexes b.value kind content)) track c.then in
    let f = through (content_of form scale d.value a.value c.value) (λ content. Ok (track_with trexes b.value d.value content)) track d.then in
    let fits = content_fits form scale d.value a.value c.value f.value f.was in
    let all : IsNewAndReadable before (track_with trexes b.value d.value f.value) = record { readable = (fits.scale, fits.media, fits.low, fits.high); fresh = new_number before a.value b.value b.was } in
    subst (IsNewAndReadable before) (same_ok _ _ (Ok (track_with trexes b.value d.value f.value)) refl f.then) all

-- ---- the tracks

all_push : {X : Type 0} (P : X → Type 0) (xs : List X) (x : X) → AllByRecursion P xs → P x → AllByRecursion P (xs ++ x ∷ [])
all_push P [] x h p = (p, tt)
all_push P (y ∷ ys) x h p = (h.0, all_push P ys x h.1 p)

neither : (a b : Bool) → (a || b) ≡ false → (a ≡ false) × (b ≡ false)
neither true b e = absurd (cc)
neither false b e = (refl, e)

other_number : (n m : ℕ) → (n == m) ≡ false → n ≡ m → ⊥
other_number n m e h = grind (arith, nat_tests)

distinct_push : (tracks : List TrackInfo) (track : TrackInfo) → HasDistinctIds tracks → list_any (has_id track.id) tracks ≡ false → HasDistinctIds (tracks ++ track ∷ [])
distinct_push [] track h e = (tt, tt)
distinct_push (t ∷ ts) track h e =
    let n = neither (has_id track.id t) (list_any (has_id track.id) ts) e in
    (all_push (λ (u : TrackInfo). t.id ≢ u.id) ts track h.0 (other_number t.id track.id n.0), distinct_push ts track h.1 n.1)

pub record AreTracks (tracks : List TrackInfo) (count : ℕ) : Type 0 where
  pub readable : AllByRecursion IsReadable tracks
  pub distinct : HasDistinctIds tracks
  pub counted : length tracks ≡ count

tracks_join : (traks : List (List ℕ)) (form : Form) (scale : ℕ) (trexes : List (List ℕ)) (before tracks : List TrackInfo) (count : ℕ) → AreTracks before count → tracks_of_traks form scale trexes before traks ≡ Ok tracks
    → AreTracks tracks (count + length traks)
unfolding tracks_of_traks
tracks_join [] form scale trexes before tracks count h e =
    let is : before ≡ tracks = same_ok _ _ (Ok before) refl e in
    let counted = h.counted in
    subst (λ ts. AreTracks ts (count + 0)) is (record { readable = h.readable; distinct = h.distinct; counted = omega arith })
tracks_join (trak ∷ traks) form scale trexes before tracks count h e =
    let b = through (track_of_trak form scale trexes before trak) (λ track. tracks_of_traks form scale trexes (before ++ track ∷ []) traks) tracks e in
    let j = track_joins form scale trexes before trak b.value b.was in
    let counted = h.counted in
    let next : AreTracks (before ++ b.value ∷ []) (count + 1) = record {
      readable = all_push IsReadable before b.value h.readable j.readable;
      distinct = distinct_push before b.value h.distinct j.fresh;
      counted = length-append before (b.value ∷ []) ∙ (omega arith);
    } in
    let rest = tracks_join traks form scale trexes (before ++ b.value ∷ []) tracks (count + 1) next b.then in
    let same : (count + 1) + length traks ≡ count + length (trak ∷ traks) = omega arith in
    subst (AreTracks tracks) same rest

-- ---- the presentation

timed_by : (t : Bool) (end : ℤ) → cond t Infinite (At end) ≡ Nan → ⊥
timed_by true end e = cc
timed_by false end e = cc

presentation_in_is : (form : Form) (movie : List BoxView) (p : Presentation) → presentation_in form movie ≡ Ok p → IsPresentation p
unfolding presentation_in
presentation_in_is form movie p e =
    let traks = all_of (codes "trak") movie in
    let a = through (times_of movie) (λ times. extends_of form movie >>= λ extends. check TooManyTracks (nat_le (length traks) 64) >>= λ _. tracks_of_traks form times.scale extends.trexes [] traks >>= λ tracks. Ok (record { scale = times.scale; duration = moment_of times.scale (if extends.duration == 0 then times.duration else extends.duration); tracks = tracks })) p e in
    let b = through (extends_of form movie) (λ extends. check TooManyTracks (nat_le (length traks) 64) >>= λ _. tracks_of_traks form a.value.scale extends.trexes [] traks >>= λ tracks. Ok (record { scale = a.value.scale; duration = moment_of a.value.scale (if extends.duration == 0 then a.value.duration else extends.duration); tracks = tracks })) p a.then in
    let duration = if b.value.duration == 0 then a.value.duration else b.value.duration in
    let c = through (check TooManyTracks (nat_le (length traks) 64)) (λ _. tracks_of_traks form a.value.scale b.value.trexes [] traks >>= λ tracks. Ok (record { scale = a.value.scale; duration = moment_of a.value.scale duration; tracks = tracks })) p b.then in
    let d = through (tracks_of_traks form a.value.scale b.value.trexes [] traks) (λ tracks. Ok (record { scale = a.value.scale; duration = moment_of a.value.scale duration; tracks = tracks })) p c.then in
    let none : AreTracks [] 0 = record { readable = tt; distinct = tt; counted = refl } in
    let are = tracks_join traks form a.value.scale b.value.trexes [] d.value 0 none d.was in
    let few : length traks ≤ 64 = few_from (length traks) (checked TooManyTracks _ _ c.was) in
    let counted = are.counted in
    let all : IsPresentation (record { scale = a.value.scale; duration = moment_of a.value.scale duration; tracks = d.value }) = record {
      readable = are.readable;
      distinct = are.distinct;
      few = omega arith;
      timed = timed_by (duration == 0) (media_ticks (pos duration) a.value.scale);
    } in
    subst IsPresentation (same_ok _ _ (Ok (record { scale = a.value.scale; duration = moment_of a.value.scale duration; tracks = d.value })) refl d.then) all
  where
    few_from : (n : ℕ) → nat_le n 64 ≡ true → n ≤ 64
    few_from n h = grind (arith, nat_tests)

pub presentation-is : (form : Form) (moov : List ℕ) (p : Presentation) → moov_presentation_of form moov ≡ Ok p → IsPresentation p
presentation-is form moov p e =
    let b = through (need Size (payload_of moov)) (λ payload. need Size (row_of payload) >>= λ boxes. presentation_in form boxes) p e in
    let c = through (need Size (row_of b.value)) (presentation_in form) p b.then in
    presentation_in_is form c.value p c.then

pub gives-presentation : (form : Form) (moov : List ℕ) (r : Result Presentation (ReadError InitFault)) → Gives (λ p. p) r (moov_presentation_of form moov) → IfOk r IsPresentation
gives-presentation form moov (Ok p) g = presentation-is form moov p g
gives-presentation form moov (Err e) g = tt
