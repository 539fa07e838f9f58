-- A movie box that was written reads back as the presentation of its tracks.
use Rattle.std.proofs.Common.{◌≡◌, ◌≢◌, ◌∙◌, ℕ, ◌+◌, ◌≤◌, leb, pos, Bool, true, false, cond, List, [], ◌∷◌, ◌++◌, length, map, drop, Option, Some, None, Ok, append_assoc, append-nil, ap, refl, sym, arith}
use Rattle.std.proofs.lemmas.Bool.Decides.{nat_tests}
use Rattle.std.specs.List.{AllByRecursion, list_all, list_any}
use Rattle.std.specs.Prelude.{◌==◌, ◌||◌, find, unwrap_or, IsSomeAnd}
use lib.Chars.{codes}
use Rattle.mse_base.specs.Time.{media_ticks}
use Rattle.mse_base.specs.Presentation.{has_id}
use Rattle.mse_base.specs.declared.ticks.Moment.TheVariants.{Infinite}
use Rattle.mse_base.specs.declared.track.Kind.{Kind}
use Rattle.mse_base.specs.declared.track.Kind.TheVariants.{Video, Audio, Other}
use Rattle.mse_base.specs.declared.track.TrackInfo.{TrackInfo}
use Rattle.mse_base.specs.declared.track.Presentation.{Presentation}
use Rattle.bmff_boxes.specs.declared.box_header.Header.{Header}
use Rattle.bmff_boxes.specs.declared.box_header.Header.TheVariants as head
use Rattle.bmff_boxes.specs.Headers.{header_of}
use Rattle.bmff_boxes.specs.Children.{payload_of, payload_in}
use Rattle.bmff_boxes.specs.Fields.{is_version}
use Rattle.bmff_boxes.specs.MovieFields.{mvhd_scale_of, mvhd_duration_of, tkhd_track_of, mdhd_scale_of, hdlr_handler_of, entry_count_of, trex_duration_of, trex_size_of, trex_flags_of}
use Rattle.bmff_boxes.specs.Rows.{BoxView, row_of, first_of, all_of}
use Rattle.bmff_init.specs.Edits.{shifts_in}
use Rattle.bmff_init.specs.Tracks.{is_trex_of, default_of, kind_of, entry_type, codec_of, empty_tables_check, codec_in, media_scale_of, media_content, content_of, track_number_of, mdia_row_of, kind_in, track_with, track_of_trak, tracks_of_traks}
use Rattle.bmff_init.specs.Movies.{times_of, extends_of, presentation_in, moov_presentation_of, init_of}
use Rattle.bmff_write.specs.declared.track_out.TrackOut.{TrackOut}
use Rattle.bmff_write.specs.Boxes.{box_bytes}
use Rattle.bmff_write.specs.Fits.{IsFittingTrack}
use Rattle.bmff_write.specs.Tracks.{IsTrackOut, AreNumbersDistinct, AreTracksOut, HasType, IsSampleDescription, AreSampleDescriptions}
use Rattle.bmff_write.specs.Movie.{handler_of, greatest_number, moov_bytes}
use Rattle.bmff_write.proofs.ReadBoxes.{box_child}
use Rattle.bmff_write.proofs.ReadMovies.{table_payload, table_row, stbl_payload, table_row_read, no_entries, information_row, minf_payload, information_read, stbl_first, mdhd_payload, hdlr_payload, media_row, mdia_payload, media_row_read, scale_read, handler_written, tkhd_payload, track_row, trak_payload, track_row_read, mdia_first, edts_first, number_read, trex_payload, trex_len, trex_zero, few_edits, trak_payloads, mvhd_payload, trex_boxes, mvex_payload, trexes_row, trexes_all, movie_row, traks_all, mvex_first, mvhd_scale, mvhd_duration, mvhd_version, moov_payload, moov_small, movie_row_read}
use Rattle.bmff_init.specs.declared.form.Form.{Form}
use Rattle.bmff_init.specs.declared.track.TrackContent.{TrackContent}
use Rattle.written_back.specs.Tracks.{track_read, presentation_read, last_media_time, wait_of}
use Rattle.written_back.proofs.Edits.{Shifts, shifts_read, shifts_written}

-- what is asked of a movie box in the form of fragmented files
record IsFragmented (form : Form) : Type 0 where
  tables : (table : List BoxView) (empty : List ℕ) → entry_count_of empty ≡ Some 0 → first_of (codes "stts") table ≡ Some empty → first_of (codes "stsc") table ≡ Some empty
      → first_of (codes "stco") table ≡ Some empty → first_of (codes "co64") table ≡ None → empty_tables_check form table ≡ Ok true
  extends : (movie boxes : List BoxView) (mvex : List ℕ) (trexes : List (List ℕ)) → first_of (codes "mvex") movie ≡ Some mvex → row_of mvex ≡ Some boxes → first_of (codes "mehd") boxes ≡ None
      → all_of (codes "trex") boxes ≡ trexes → list_all (λ trex. leb 24 (length trex)) trexes ≡ true → extends_of form movie ≡ Ok (record { duration = 0; trexes = trexes })

-- ---- the sample description

type_is : (codec : List ℕ) (h : Header) → HasType codec h → entry_type h ≡ Ok codec
type_is codec (head.Whole found start len) is = ap Ok is
type_is codec head.Short is = absurd is
type_is codec (head.Bad f) is = absurd is

codec_known : (stsd codec : List ℕ) (count : ℕ) → entry_count_of stsd ≡ Some count → (count == 0) ≡ false → entry_type (header_of (drop 8 stsd)) ≡ Ok codec → codec_of stsd ≡ Ok codec
unfolding codec_of
codec_known stsd codec count counted some entry = rw (counted, some, entry) refl

codec_by : (stsd codec : List ℕ) (o : Option ℕ) → entry_count_of stsd ≡ o → IsSomeAnd o (λ n. 1 ≤ n) → HasType codec (header_of (drop 8 stsd)) → codec_of stsd ≡ Ok codec
codec_by stsd codec None e some entry = absurd some
codec_by stsd codec (Some count) e some entry = codec_known stsd codec count e (grind (arith, nat_tests)) (type_is codec (header_of (drop 8 stsd)) entry)

codec_read : (codec stsd : List ℕ) (d : IsSampleDescription codec stsd) → codec_of d.payload ≡ Ok codec
codec_read codec stsd d = codec_by d.payload codec (entry_count_of d.payload) refl d.counted d.entry

scale_known : (media : List BoxView) (mdhd : List ℕ) (scale : ℕ) → first_of (codes "mdhd") media ≡ Some mdhd → mdhd_scale_of mdhd ≡ Some scale → (scale == 0) ≡ false → media_scale_of media ≡ Ok scale
scale_known media mdhd scale first read some = rw (first, read, some) refl

handled : (kind : Kind) → kind ≢ Other → kind_of (handler_of kind) ≡ kind
handled Video is = refl
handled Audio is = refl
handled Other is = absurd (is refl)

kind_known : (media : List BoxView) (hdlr handler : List ℕ) → first_of (codes "hdlr") media ≡ Some hdlr → hdlr_handler_of hdlr ≡ Some handler → kind_in media ≡ Ok (kind_of handler)
kind_known media hdlr handler first read = rw (first, read) refl

kind_read : (t : TrackOut) (stsd : List ℕ) → t.kind ≢ Other → kind_in (media_row t stsd) ≡ Ok t.kind
kind_read t stsd is = kind_known (media_row t stsd) (hdlr_payload t.kind) (handler_of t.kind) refl (handler_written t.kind) ∙ ap Ok (handled t.kind is)

codec_in_known : (form : Form) (media information table : List BoxView) (minf stbl stsd codec : List ℕ) → first_of (codes "minf") media ≡ Some minf → row_of minf ≡ Some information
    → first_of (codes "stbl") information ≡ Some stbl → row_of stbl ≡ Some table → first_of (codes "stsd") table ≡ Some stsd → codec_of stsd ≡ Ok codec → empty_tables_check form table ≡ Ok true
    → codec_in form media ≡ Ok codec
unfolding codec_in
codec_in_known form media information table minf stbl stsd codec a b c d e f g = rw (a, b, c, d, e, f, g) refl

media_codec : (form : Form) → IsFragmented form → (t : TrackOut) (stsd : List ℕ) → IsSampleDescription t.codec stsd → codec_in form (media_row t stsd) ≡ Ok t.codec
media_codec form fragmented t stsd d =
    codec_in_known form (media_row t stsd) (information_row t.kind stsd) (table_row d.payload) (minf_payload t.kind stsd) (stbl_payload stsd) d.payload t.codec
    refl (information_read t.kind stsd d.short) (stbl_first t.kind stsd) (table_row_read t.codec stsd d) refl (codec_read t.codec stsd d) (fragmented.tables (table_row d.payload) table_payload no_entries refl refl refl refl)

number_known : (before : List TrackInfo) (track : List BoxView) (tkhd : List ℕ) (id : ℕ) → first_of (codes "tkhd") track ≡ Some tkhd → tkhd_track_of tkhd ≡ Some id → list_any (has_id id) before ≡ false
    → track_number_of before track ≡ Ok id
number_known before track tkhd id first read fresh = rw (first, read, fresh) refl

media_known : (track : List BoxView) (mdia : List ℕ) (media : List BoxView) → first_of (codes "mdia") track ≡ Some mdia → row_of mdia ≡ Some media → mdia_row_of track ≡ Ok media
media_known track mdia media first row = rw (first, row) refl

content_known : (form : Form) (track media : List BoxView) (scale : ℕ) (codec : List ℕ) (shifts : Shifts) → media_scale_of media ≡ Ok scale → codec_in form media ≡ Ok codec
    → shifts_in 1000 (first_of (codes "edts") track) ≡ Ok shifts
    → media_content form 1000 track media ≡ Ok (record { codec = codec; scale = scale; media_shift = shifts.media; empty_shift = shifts.empty })
unfolding media_content
content_known form track media scale codec shifts a b c = rw (a, b, c) refl

content_by : (form : Form) (kind : Kind) (track media : List BoxView) → kind ≢ Other → content_of form 1000 kind track media ≡ media_content form 1000 track media
content_by form Video track media is = refl
content_by form Audio track media is = refl
content_by form Other track media is = absurd (is refl)

-- what the track extends boxes tell by default
found_by : (t : Bool) (f : List ℕ → Option ℕ) (x : List ℕ) (others : Option (List ℕ)) → f x ≡ Some 0 → default_of f others ≡ 0 → default_of f (cond t (Some x) others) ≡ 0
found_by true f x others here later = ap (λ (o : Option ℕ). unwrap_or o 0) here
found_by false f x others here later = later

find_zero : (f : List ℕ → Option ℕ) (p : List ℕ → Bool) (xs : List (List ℕ)) → AllByRecursion (λ x. f x ≡ Some 0) xs → default_of f (find p xs) ≡ 0
find_zero f p [] all = refl
find_zero f p (x ∷ xs) all = found_by (p x) f x (find p xs) all.0 (find_zero f p xs all.1)

trexes_zero : (ts : List TrackOut) → AllByRecursion (λ x. trex_duration_of x ≡ Some 0) (map trex_payload ts) × AllByRecursion (λ x. trex_size_of x ≡ Some 0) (map trex_payload ts)
    × AllByRecursion (λ x. trex_flags_of x ≡ Some 0) (map trex_payload ts)
trexes_zero [] = (tt, tt, tt)
trexes_zero (t ∷ ts) =
    let one = trex_zero t in
    let ih = trexes_zero ts in
    ((one.0, ih.0), (one.1, ih.1), (one.2, ih.2))

abbrev content_read : TrackOut → TrackContent
content_read t = record { codec = t.codec; scale = t.scale; media_shift = last_media_time t.edits; empty_shift = media_ticks (pos (wait_of t.edits)) 1000 }

with_trexes : (ts : List TrackOut) (t : TrackOut) → track_with (map trex_payload ts) t.id t.kind (content_read t) ≡ track_read t
with_trexes ts t =
    let zero = trexes_zero ts in
    let a = find_zero trex_duration_of (is_trex_of t.id) (map trex_payload ts) zero.0 in
    let b = find_zero trex_size_of (is_trex_of t.id) (map trex_payload ts) zero.1 in
    let c = find_zero trex_flags_of (is_trex_of t.id) (map trex_payload ts) zero.2 in
    rw (a, b, c) refl

track_known : (form : Form) (trexes : List (List ℕ)) (before : List TrackInfo) (trak : List ℕ) (track media : List BoxView) (id : ℕ) (kind : Kind) (content : TrackContent) → row_of trak ≡ Some track → track_number_of before track ≡ Ok id
    → mdia_row_of track ≡ Ok media → kind_in media ≡ Ok kind → content_of form 1000 kind track media ≡ Ok content → track_of_trak form 1000 trexes before trak ≡ Ok (track_with trexes id kind content)
unfolding track_of_trak
track_known form trexes before trak track media id kind content a b c d e = rw (a, b, c, d, e) refl

track_written : (form : Form) → IsFragmented form → (ts : List TrackOut) (before : List TrackInfo) (t : TrackOut) (stsd : List ℕ) → IsTrackOut t → IsFittingTrack t → IsSampleDescription t.codec stsd → list_any (has_id t.id) before ≡ false
    → track_of_trak form 1000 (map trex_payload ts) before (trak_payload t stsd) ≡ Ok (track_read t)
track_written form fragmented ts before t stsd is fits d fresh =
    let track : List BoxView = track_row t stsd in
    let media : List BoxView = media_row t stsd in
    let few = few_edits t.edits is.edited in
    let number = number_known before track (tkhd_payload t) t.id refl (number_read t (omega (arith, is.below))) fresh in
    let opened = media_known track (mdia_payload t stsd) media (mdia_first t stsd t.edits) (media_row_read t stsd d.short) in
    let kind = kind_read t stsd is.media in
    let some : (t.scale == 0) ≡ false = (let h = is.timed in grind (arith, nat_tests)) in
    let scale = scale_known media (mdhd_payload t.scale) t.scale refl (scale_read t.scale fits.scale) some in
    let shifts = ap (shifts_in 1000) (edts_first (mdia_payload t stsd) t.edits) ∙ shifts_written t.edits is.edited fits.edits in
    let content = content_by form t.kind track media is.media ∙ content_known form track media t.scale t.codec (shifts_read t.edits) scale (media_codec form fragmented t stsd d) shifts in
    track_known form (map trex_payload ts) before (trak_payload t stsd) track media t.id t.kind (content_read t) (track_row_read t stsd few d.short) number opened kind content
    ∙ ap Ok (with_trexes ts t)

-- none of the tracks has the number of one before
abbrev AreFresh : List TrackInfo → List TrackOut → Type 0
AreFresh before ts = AllByRecursion (λ t. list_any (has_id t.id) before ≡ false) ts

none_by : (t a b : Bool) → (t || a) ≡ false → (a ≡ false → b ≡ false) → (t || b) ≡ false
none_by true a b none more = absurd cc
none_by false a b none more = more none

any_push : (p : TrackInfo → Bool) (xs : List TrackInfo) (y : TrackInfo) → list_any p xs ≡ false → p y ≡ false → list_any p (xs ++ y ∷ []) ≡ false
any_push p [] y none last = ap (λ (t : Bool). t || false) last
any_push p (x ∷ xs) y none last = none_by (p x) (list_any p xs) (list_any p (xs ++ y ∷ [])) none (λ h. any_push p xs y h last)

fresh_push : (before : List TrackInfo) (t : TrackOut) (ts : List TrackOut) → AreFresh before ts → AllByRecursion (λ u. t.id ≢ u.id) ts → AreFresh (before ++ track_read t ∷ []) ts
fresh_push before t [] fresh apart = tt
fresh_push before t (u ∷ us) fresh apart =
    let other : (t.id == u.id) ≡ false = (let h = apart.0 in grind (arith, nat_tests)) in
    (any_push (has_id u.id) before (track_read t) fresh.0 other, fresh_push before t us fresh.1 apart.1)

tracks_step : (form : Form) (trexes : List (List ℕ)) (before : List TrackInfo) (trak : List ℕ) (traks : List (List ℕ)) (track : TrackInfo) (all : List TrackInfo) → track_of_trak form 1000 trexes before trak ≡ Ok track
    → tracks_of_traks form 1000 trexes (before ++ track ∷ []) traks ≡ Ok all → tracks_of_traks form 1000 trexes before (trak ∷ traks) ≡ Ok all
unfolding tracks_of_traks
tracks_step form trexes before trak traks track all a b = rw (a, b) refl

tracks_written : (form : Form) → IsFragmented form → (all ts : List TrackOut) (stsds : List (List ℕ)) (before : List TrackInfo) → AllByRecursion IsTrackOut ts → AllByRecursion IsFittingTrack ts → AreSampleDescriptions ts stsds
    → AreNumbersDistinct ts → AreFresh before ts
    → tracks_of_traks form 1000 (map trex_payload all) before (trak_payloads ts stsds) ≡ Ok (before ++ map track_read ts)
unfolding tracks_of_traks
tracks_written form fragmented all [] stsds before each fits are apart fresh = ap Ok (sym (append-nil before))
tracks_written form fragmented all (t ∷ ts) [] before each fits are apart fresh = absurd are
tracks_written form fragmented all (t ∷ ts) (stsd ∷ stsds) before each fits are apart fresh =
    let first = track_written form fragmented all before t stsd each.0 fits.0 are.0 fresh.0 in
    let others = tracks_written form fragmented all ts stsds (before ++ track_read t ∷ []) each.1 fits.1 are.1 apart.1 (fresh_push before t ts fresh.1 apart.0) in
    tracks_step form (map trex_payload all) before (trak_payload t stsd) (trak_payloads ts stsds) (track_read t) _ first (others ∙ ap Ok (append_assoc before (track_read t ∷ []) (map track_read ts)))

no_mehd : (ts : List TrackOut) → first_of (codes "mehd") (trex_boxes ts) ≡ None
no_mehd [] = refl
no_mehd (t ∷ ts) = no_mehd ts

trexes_long : (ts : List TrackOut) → list_all (λ trex. leb 24 (length trex)) (map trex_payload ts) ≡ true
trexes_long [] = refl
trexes_long (t ∷ ts) =
    let size = trex_len t in
    let long : leb 24 (length (trex_payload t)) ≡ true = (let h : 24 ≤ length (trex_payload t) = omega (arith, size) in grind (arith, nat_tests)) in
    rw long (trexes_long ts)

times_known : (movie : List BoxView) (mvhd : List ℕ) → first_of (codes "mvhd") movie ≡ Some mvhd → mvhd_scale_of mvhd ≡ Some 1000 → mvhd_duration_of mvhd ≡ Some 0 → is_version 1 mvhd ≡ false
    → times_of movie ≡ Ok (record { scale = 1000; duration = 0 })
unfolding times_of
times_known movie mvhd first scale duration version = rw (first, scale, duration, version) refl

presentation_known : (form : Form) (movie : List BoxView) (trexes traks : List (List ℕ)) (tracks : List TrackInfo) → times_of movie ≡ Ok (record { scale = 1000; duration = 0 })
    → extends_of form movie ≡ Ok (record { duration = 0; trexes = trexes }) → all_of (codes "trak") movie ≡ traks → leb (length traks) 64 ≡ true
    → tracks_of_traks form 1000 trexes [] traks ≡ Ok tracks → presentation_in form movie ≡ Ok (record { scale = 1000; duration = Infinite; tracks = tracks })
unfolding presentation_in
presentation_known form movie trexes traks tracks a b c d e = rw (a, b, c, d, e) refl

traks_few : (ts : List TrackOut) (stsds : List (List ℕ)) → length (trak_payloads ts stsds) ≤ length ts
traks_few [] stsds = omega arith
traks_few (t ∷ ts) [] = omega arith
traks_few (t ∷ ts) (stsd ∷ stsds) = let ih = traks_few ts stsds in omega (arith, ih)

fresh_all : (ts : List TrackOut) → AreFresh [] ts
fresh_all [] = tt
fresh_all (t ∷ ts) = (refl, fresh_all ts)

presentation_written : (form : Form) → IsFragmented form → (ts : List TrackOut) (stsds : List (List ℕ)) → AreTracksOut ts → AllByRecursion IsFittingTrack ts → AreSampleDescriptions ts stsds
    → presentation_in form (movie_row ts stsds) ≡ Ok (presentation_read ts)
presentation_written form fragmented ts stsds are fits described =
    let movie : List BoxView = movie_row ts stsds in
    let mvhd : List ℕ = mvhd_payload (greatest_number ts + 1) in
    let next : ℕ = greatest_number ts + 1 in
    let times = times_known movie mvhd refl (mvhd_scale next) (mvhd_duration next) (mvhd_version next) in
    let extends = fragmented.extends movie (trex_boxes ts) (mvex_payload ts) (map trex_payload ts) (mvex_first ts stsds (mvex_payload ts)) (trexes_row ts) (no_mehd ts) (trexes_all ts) (trexes_long ts) in
    let few : leb (length (trak_payloads ts stsds)) 64 ≡ true = (let h = traks_few ts stsds in let k = are.few in grind (arith, nat_tests)) in
    presentation_known form movie (map trex_payload ts) (trak_payloads ts stsds) (map track_read ts) times extends (traks_all ts stsds (mvex_payload ts)) few
    (tracks_written form fragmented ts ts stsds [] are.each fits described are.distinct (fresh_all ts))

init_known : (form : Form) (moov payload : List ℕ) (boxes : List BoxView) (p : Presentation) → payload_of moov ≡ Some payload → row_of payload ≡ Some boxes → presentation_in form boxes ≡ Ok p
    → moov_presentation_of form moov ≡ Ok p
init_known form moov payload boxes p a b c = rw (a, b, c) refl

-- what a movie box reads as
movie_written : (form : Form) → IsFragmented form → (ts : List TrackOut) (stsds : List (List ℕ)) → AreTracksOut ts → AllByRecursion IsFittingTrack ts → AreSampleDescriptions ts stsds
    → moov_presentation_of form (moov_bytes ts stsds) ≡ Ok (presentation_read ts)
unfolding moov_bytes
movie_written form fragmented ts stsds are fits described =
    let moov : List ℕ = box_bytes (codes "moov") (moov_payload ts stsds) in
    let child = box_child (codes "moov") (moov_payload ts stsds) [] refl (moov_small ts stsds are described) in
    let opened : payload_of moov ≡ Some (moov_payload ts stsds) = ap payload_of (sym (append-nil moov)) ∙ ap payload_in child in
    init_known form moov (moov_payload ts stsds) (movie_row ts stsds) (presentation_read ts) opened (movie_row_read ts stsds are described) (presentation_written form fragmented ts stsds are fits described)

pub init_written : (ts : List TrackOut) (stsds : List (List ℕ)) → AreTracksOut ts → AllByRecursion IsFittingTrack ts → AreSampleDescriptions ts stsds → init_of (moov_bytes ts stsds) ≡ Ok (presentation_read ts)
unfolding empty_tables_check extends_of
init_written ts stsds are fits described =
    movie_written _ (record {
      tables = λ table empty none a b c d. rw (a, b, c, d, none) refl;
      extends = λ movie boxes mvex trexes a b c d e. rw (a, b, c, d, e) refl;
    }) ts stsds are fits described
