-- The timescales of the tracks of a movie box.
use Rattle.std.proofs.Common.{◌≡◌, ℕ, ◌<◌, ◌^◌, ◌==◌, Bool, true, false, cond, if◌then◌else◌, not, List, [], ◌∷◌, ◌++◌, length, Some, Result, Ok, arith, subst}
use Rattle.std.specs.Prelude.{nat_le}
use Rattle.std.specs.List.{AllByRecursion}
use lib.Chars.{codes}
use Rattle.mse_base.specs.declared.track.Kind.{Kind}
use Rattle.mse_base.specs.declared.track.Kind.TheVariants.{Video, Audio, Other}
use Rattle.mse_base.specs.declared.track.TrackInfo.{TrackInfo}
use Rattle.mse_base.specs.declared.track.Presentation.{Presentation}
use Rattle.bmff_boxes.specs.Children.{payload_of}
use Rattle.bmff_boxes.specs.Fields.{field, is_version}
use Rattle.bmff_boxes.specs.MovieFields.{mdhd_scale_of}
use Rattle.bmff_boxes.specs.Reading.{◌>>=◌, need, check}
use Rattle.bmff_boxes.specs.Rows.{BoxView, row_of, first_of, all_of}
use Rattle.bmff_boxes.proofs.ReadingLaws.{through, needed}
use Rattle.bmff_init.specs.declared.fault.InitFault.TheVariants.{Size, Missing, ZeroTimescale, TooManyTracks}
use Rattle.bmff_init.specs.Edits.{shifts_in}
use Rattle.bmff_init.specs.Tracks.{media_scale_of, codec_in, no_content, media_content, content_of, track_number_of, mdia_row_of, kind_in, track_with, track_of_trak, tracks_of_traks}
use Rattle.bmff_init.specs.Movies.{moment_of, times_of, extends_of, presentation_in, moov_presentation_of}
use Rattle.written_back.proofs.Bytes.{AreBytes, field_below, IsByteBox, payload_bytes, row_bytes, first_bytes, all_bytes}

-- ---- the types of the reader of movie boxes, which has no names for them outside

abbrev TypeOf : {A : Type 0} → A → Type 0
TypeOf {A = A} x = A

abbrev FirstOf : {A B : Type 0} → (A → B) → Type 0
FirstOf {A = A} {B = B} f = A

abbrev pub Form : Type 0
Form = FirstOf moov_presentation_of

abbrev pub Content : Type 0
Content = TypeOf no_content

-- ---- timescales

pub same_ok : {A F : Type 0} (x y : A) → ◌≡◌ {A = Result A F} (Ok x) (Ok y) → x ≡ y
same_ok x y e = cc

mdhd_below : (p : List ℕ) (scale : ℕ) → AreBytes p → mdhd_scale_of p ≡ Some scale → scale < 2 ^ 32
mdhd_below p scale h e = by (is_version 1 p) e
  where
    by : (t : Bool) → cond t (field 4 20 p) (field 4 12 p) ≡ Some scale → scale < 2 ^ 32
    by true e = field_below 20 p scale h e
    by false e = field_below 12 p scale h e

scale_below : (media : List BoxView) (scale : ℕ) → AllByRecursion IsByteBox media → media_scale_of media ≡ Ok scale → scale < 2 ^ 32
scale_below media scale h e =
    let a = through (need (Missing (codes "mdhd")) (first_of (codes "mdhd") media)) (λ mdhd. need Size (mdhd_scale_of mdhd) >>= λ s. check ZeroTimescale (not (s == 0)) >>= λ _. Ok s) scale e in
    let b = through (need Size (mdhd_scale_of a.value)) (λ s. check ZeroTimescale (not (s == 0)) >>= λ _. Ok s) scale a.then in
    let c = through (check ZeroTimescale (not (b.value == 0))) (λ _. Ok b.value) scale b.then in
    let bytes = first_bytes (codes "mdhd") media a.value h (needed (Missing (codes "mdhd")) _ a.value a.was) in
    let below = mdhd_below a.value b.value bytes (needed Size _ b.value b.was) in
    subst (λ n. n < 2 ^ 32) (same_ok b.value scale c.then) below

media_below : (form : Form) (scale : ℕ) (track media : List BoxView) (content : Content) → AllByRecursion IsByteBox media → media_content form scale track media ≡ Ok content → content.scale < 2 ^ 32
unfolding media_content
media_below form scale track media content h e =
    let a = through (media_scale_of media) (λ s. codec_in form media >>= λ codec. shifts_in scale (first_of (codes "edts") track) >>= λ shifts. Ok (record { codec = codec; scale = s; media_shift = shifts.media; empty_shift = shifts.empty })) content e in
    let b = through (codec_in form media) (λ codec. shifts_in scale (first_of (codes "edts") track) >>= λ shifts. Ok (record { codec = codec; scale = a.value; media_shift = shifts.media; empty_shift = shifts.empty })) content a.then in
    let c = through (shifts_in scale (first_of (codes "edts") track)) (λ shifts. Ok (record { codec = b.value; scale = a.value; media_shift = shifts.media; empty_shift = shifts.empty })) content b.then in
    subst (λ (k : Content). k.scale < 2 ^ 32) (same_ok _ content c.then) (scale_below media a.value h a.was)

content_below : (form : Form) (scale : ℕ) (kind : Kind) (track media : List BoxView) (content : Content) → AllByRecursion IsByteBox media → content_of form scale kind track media ≡ Ok content → content.scale < 2 ^ 32
content_below form scale Other track media content h e =
    subst (λ (k : Content). k.scale < 2 ^ 32) (same_ok no_content content e) (omega arith)
content_below form scale Video track media content h e = media_below form scale track media content h e
content_below form scale Audio track media content h e = media_below form scale track media content h e

-- the boxes of a media box
pub media_bytes : (track media : List BoxView) → AllByRecursion IsByteBox track → mdia_row_of track ≡ Ok media → AllByRecursion IsByteBox media
media_bytes track media h e =
    let a = through (need (Missing (codes "mdia")) (first_of (codes "mdia") track)) (λ mdia. need Size (row_of mdia)) media e in
    row_bytes a.value media (first_bytes (codes "mdia") track a.value h (needed (Missing (codes "mdia")) _ a.value a.was)) (needed Size _ media a.then)

abbrev pub IsScaled : TrackInfo → Type 0
IsScaled track = track.scale < 2 ^ 32

track_below : (form : Form) (scale : ℕ) (trexes : List (List ℕ)) (before : List TrackInfo) (trak : List ℕ) (track : TrackInfo) → AreBytes trak → track_of_trak form scale trexes before trak ≡ Ok track → IsScaled track
unfolding track_of_trak
track_below form scale trexes before trak track h e =
    let a = through (need Size (row_of trak)) (λ boxes. track_number_of before boxes >>= λ id. mdia_row_of boxes >>= λ media. kind_in media >>= λ kind. content_of form scale kind boxes media >>= λ content. Ok (track_with trexes id kind content)) track e in
    let b = through (track_number_of before a.value) (λ id. mdia_row_of a.value >>= λ media. kind_in media >>= λ kind. content_of form scale kind a.value media >>= λ content. Ok (track_with trexes id kind content)) track a.then in
    let c = through (mdia_row_of a.value) (λ media. kind_in media >>= λ kind. content_of form scale kind a.value media >>= λ content. Ok (track_with trexes b.value kind content)) track b.then in
    let d = through (kind_in c.value) (λ kind. content_of form scale kind a.value c.value >>= λ content. Ok (track_with trexes b.value kind content)) track c.then in
    let f = through (content_of form scale d.value a.value c.value) (λ content. Ok (track_with trexes b.value d.value content)) track d.then in
    let row = row_bytes trak a.value h (needed Size _ a.value a.was) in
    let below = content_below form scale d.value a.value c.value f.value (media_bytes a.value c.value row c.was) f.was in
    subst IsScaled (same_ok (track_with trexes b.value d.value f.value) track f.then) below

all_push : {X : Type 0} (P : X → Type 0) (xs : List X) (x : X) → AllByRecursion P xs → P x → AllByRecursion P (xs ++ x ∷ [])
all_push P [] x h p = (p, tt)
all_push P (y ∷ ys) x h p = (h.0, all_push P ys x h.1 p)

tracks_below : (traks : List (List ℕ)) (form : Form) (scale : ℕ) (trexes : List (List ℕ)) (before tracks : List TrackInfo) → AllByRecursion AreBytes traks → AllByRecursion IsScaled before
    → tracks_of_traks form scale trexes before traks ≡ Ok tracks → AllByRecursion IsScaled tracks
unfolding tracks_of_traks
tracks_below [] form scale trexes before tracks h k e = subst (AllByRecursion IsScaled) (same_ok before tracks e) k
tracks_below (trak ∷ traks) form scale trexes before tracks h k e =
    let b = through (track_of_trak form scale trexes before trak) (λ track. tracks_of_traks form scale trexes (before ++ track ∷ []) traks) tracks e in
    let one = track_below form scale trexes before trak b.value h.0 b.was in
    tracks_below traks form scale trexes (before ++ b.value ∷ []) tracks h.1 (all_push IsScaled before b.value k one) b.then

in_below : (form : Form) (movie : List BoxView) (p : Presentation) → AllByRecursion IsByteBox movie → presentation_in form movie ≡ Ok p → AllByRecursion IsScaled p.tracks
unfolding presentation_in
in_below form movie p h e =
    let traks = all_of (codes "trak") movie in
    let a = through (times_of movie) (λ times. extends_of form movie >>= λ extends. check TooManyTracks (nat_le (length traks) 64) >>= λ _. tracks_of_traks form times.scale extends.trexes [] traks >>= λ tracks. Ok (record { scale = times.scale; duration = moment_of times.scale (if extends.duration == 0 then times.duration else extends.duration); tracks = tracks })) p e in
    let b = through (extends_of form movie) (λ extends. check TooManyTracks (nat_le (length traks) 64) >>= λ _. tracks_of_traks form a.value.scale extends.trexes [] traks >>= λ tracks. Ok (record { scale = a.value.scale; duration = moment_of a.value.scale (if extends.duration == 0 then a.value.duration else extends.duration); tracks = tracks })) p a.then in
    let duration = if b.value.duration == 0 then a.value.duration else b.value.duration in
    let c = through (check TooManyTracks (nat_le (length traks) 64)) (λ _. tracks_of_traks form a.value.scale b.value.trexes [] traks >>= λ tracks. Ok (record { scale = a.value.scale; duration = moment_of a.value.scale duration; tracks = tracks })) p b.then in
    let d = through (tracks_of_traks form a.value.scale b.value.trexes [] traks) (λ tracks. Ok (record { scale = a.value.scale; duration = moment_of a.value.scale duration; tracks = tracks })) p c.then in
    let all = tracks_below traks form a.value.scale b.value.trexes [] d.value (all_bytes (codes "trak") movie h) tt d.was in
    subst (λ (q : Presentation). AllByRecursion IsScaled q.tracks) (same_ok _ p d.then) all

-- the tracks of a movie box of bytes
pub presentation_below : (form : Form) (moov : List ℕ) (p : Presentation) → AreBytes moov → moov_presentation_of form moov ≡ Ok p → AllByRecursion IsScaled p.tracks
presentation_below form moov p h e =
    let b = through (need Size (payload_of moov)) (λ payload. need Size (row_of payload) >>= λ boxes. presentation_in form boxes) p e in
    let c = through (need Size (row_of b.value)) (presentation_in form) p b.then in
    in_below form c.value p (row_bytes b.value c.value (payload_bytes moov b.value h (needed Size _ b.value b.was)) (needed Size _ c.value c.was)) c.then
