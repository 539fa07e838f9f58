-- The pieces of a file, one behind the other.
use Rattle.std.proofs.Common.{◌≡◌, ℕ, ◌-◌, ◌^◌, Bool, true, false, cond, ℤ, pos, ◌≤ℤ◌, List, [], ◌∷◌, ◌++◌, length, map, Option, ap, refl, sym, ◌∙◌, arith, subst}
use Rattle.std.specs.List.{AllByRecursion, flat_map}
use Rattle.std.specs.Ordering.{int_eq}
use Rattle.std.proofs.lemmas.Bool.Decides.{Decides-int_eq}
use Rattle.std.proofs.lemmas.Int.{ints}
use Rattle.mse_base.specs.Time.{media_ticks}
use Rattle.mse_base.specs.declared.track.TrackInfo.{TrackInfo}
use Rattle.mse_base.specs.declared.ticks.Moment.TheVariants.{Infinite}
use Rattle.bmff_write.specs.declared.track_out.TrackOut.{TrackOut}
use Rattle.bmff_write.specs.Fits.{IsFittingEdit, IsFittingTrack}
use Rattle.bmff_write.specs.Movie.{init_bytes_with}
use Rattle.parser_loop.specs.Items.{InitItem}
use Rattle.mse_base.specs.declared.track.Presentation.{Presentation}
use Rattle.segment_walk.specs.Segments.{items_of_string}
use Rattle.segment_walk.specs.Tables.{SegmentItem}
use Rattle.sample_tables.specs.declared.media_track.MediaTrack.{MediaTrack}
use Rattle.sample_tables.specs.Facts.{IsFileTrack, AreFileTracks}
use Rattle.remux.specs.Runs.{SampleRun, runs_in_order}
use Rattle.remux.specs.Pieces.{edits_of, track_out, init_segment_of, pieces_of}
use Rattle.remux.proofs.RunLaws.{ordered_short}
use Rattle.remux.proofs.PieceLaws.{tracks_out_are, descriptions_are}
use Rattle.written_back.specs.Tracks.{last_media_time, wait_of, track_read}
use Rattle.written_back.specs.Segments.{SegmentOut, IsSegmentOf, segments_read, segments_bytes}
use Rattle.written_back.proofs.Written.{written}
use Rattle.written_back.specs.Fragments.{track_info, presentation_of_tracks, items_of_file}
use Rattle.written_back.proofs.Chains.{fits_short}
use Rattle.written_back.proofs.RunTracks.{IsTold, runs_in}
use Rattle.written_back.proofs.Segments.{segments_out, joined, segments_are, segments_fit}

-- ---- the tracks

shift_is : (shift : ℤ) → last_media_time (edits_of shift) ≡ shift
shift_is shift = by (int_eq shift (pos 0)) refl
  where
    zero : int_eq shift (pos 0) ≡ true → pos 0 ≡ shift
    zero e = sym ((Decides-int_eq shift (pos 0)).0 e)

    by : (t : Bool) → int_eq shift (pos 0) ≡ t → last_media_time (cond t [] ((0, shift) ∷ [])) ≡ shift
    by true e = zero e
    by false e = refl

no_wait : (shift : ℤ) → wait_of (edits_of shift) ≡ 0
no_wait shift = by (int_eq shift (pos 0))
  where
    by : (t : Bool) → wait_of (cond t [] ((0, shift) ∷ [])) ≡ 0
    by true = refl
    by false = refl

info_by : MediaTrack → ℤ → ℕ → TrackInfo
info_by t shift wait = record {
  id = t.info.id;
  kind = t.info.kind;
  codec = t.codec;
  scale = t.info.scale;
  media_shift = shift;
  empty_shift = media_ticks (pos wait) 1000;
  default_duration = 0;
  default_size = 0;
  default_flags = 0;
}

info_is : (t : MediaTrack) → track_read (track_out t) ≡ track_info t
unfolding info_by
info_is t = ap (λ (z : ℤ). info_by t z (wait_of (edits_of t.info.media_shift))) (shift_is t.info.media_shift) ∙ ap (info_by t t.info.media_shift) (no_wait t.info.media_shift)

infos_are : (ts : List MediaTrack) → map track_read (map track_out ts) ≡ map track_info ts
infos_are [] = refl
infos_are (t ∷ ts) = ap (λ (i : TrackInfo). i ∷ map track_read (map track_out ts)) (info_is t) ∙ ap (λ (is : List TrackInfo). track_info t ∷ is) (infos_are ts)

edits_fit : (shift : ℤ) → pos 0 ≤ℤ shift → shift ≤ℤ pos (2 ^ 31 - 1) → AllByRecursion IsFittingEdit (edits_of shift)
edits_fit shift low high = by (int_eq shift (pos 0))
  where
    by : (t : Bool) → AllByRecursion IsFittingEdit (cond t [] ((0, shift) ∷ []))
    by true = tt
    by false = (record { duration = omega arith; media_time = fits_short shift (omega (arith, ints, low)) high }, tt)

tracks_fit : (len : ℕ) (ts : List MediaTrack) → AllByRecursion (IsFileTrack len) ts → AllByRecursion IsTold ts → AllByRecursion IsFittingTrack (map track_out ts)
tracks_fit len [] h k = tt
tracks_fit len (t ∷ ts) h k =
    let one = h.0 in
    let told = k.0 in
    let readable = one.readable in
    (record { scale = told.scale; codec = told.codec; edits = edits_fit t.info.media_shift readable.1 one.shift }, tracks_fit len ts h.1 k.1)

-- ---- the string

string_is : (file : List ℕ) (tracks : List MediaTrack) → flat_map (λ (piece : List ℕ). piece) (pieces_of file tracks) ≡ init_segment_of tracks ++ segments_bytes (segments_out file 1 (runs_in_order tracks))
unfolding pieces_of
string_is file tracks = ap (λ (xs : List ℕ). init_segment_of tracks ++ xs) (joined file 1 (runs_in_order tracks))

init_is : (tracks : List MediaTrack) → init_segment_of tracks ≡ init_bytes_with (map track_out tracks) (map (λ t. t.stsd) tracks)
unfolding init_segment_of
init_is tracks = refl

items_by : List TrackInfo → ℕ → List SegmentOut → List SegmentItem
items_by infos len segments = InitItem (record { scale = 1000; duration = Infinite; tracks = infos }) 24 ∷ segments_read infos len segments

pub read_back : (before : Option Presentation) (file : List ℕ) (tracks : List MediaTrack) → AreFileTracks (length file) tracks → AllByRecursion IsTold tracks → items_of_string before (flat_map (λ (piece : List ℕ). piece) (pieces_of file tracks)) ≡ items_of_file file tracks
unfolding items_by
read_back before file tracks h k =
    let runs : List SampleRun = runs_in_order tracks in
    let ts : List TrackOut = map track_out tracks in
    let stsds : List (List ℕ) = map (λ (t : MediaTrack). t.stsd) tracks in
    let segments : List SegmentOut = segments_out file 1 runs in
    let infos : List TrackInfo = map track_info tracks in
    let same : map track_read ts ≡ infos = infos_are tracks in
    let short = ordered_short (length file) tracks h.each in
    let each = runs_in tracks h.distinct k in
    let fit : AllByRecursion (IsSegmentOf (map track_read ts)) segments = subst (λ (is : List TrackInfo). AllByRecursion (IsSegmentOf is) segments) (sym same) (segments_fit file tracks 1 runs each short) in
    let read = written before ts stsds segments (tracks_out_are (length file) tracks h) (tracks_fit (length file) tracks h.each k) (descriptions_are (length file) tracks h.each) fit in
    let len : ℕ = length (init_bytes_with ts stsds) in
    ap (items_of_string before) (string_is file tracks ∙ ap (λ (xs : List ℕ). xs ++ segments_bytes segments) (init_is tracks))
    ∙ (read
    ∙ (ap (λ (is : List TrackInfo). items_by is len segments) same
    ∙ (ap (λ (n : ℕ). items_by infos n segments) (sym (ap length (init_is tracks)))
    ∙ ap (λ (items : List SegmentItem). InitItem (presentation_of_tracks tracks) 24 ∷ items) (segments_are file tracks 1 (length (init_segment_of tracks)) runs each short))))
