-- A file that was written, read as one string.
use Rattle.std.proofs.Common.{◌≡◌, ◌≢◌, ◌∙◌, ℕ, suc, ◌+◌, ◌<◌, ◌≤◌, ◌^◌, leb, ltb, Bool, true, false, cond, List, [], ◌∷◌, ◌++◌, length, map, drop, Option, Some, Ok, append_assoc, length-append, ap, refl, sym, arith}
use Rattle.std.proofs.lemmas.Bool.Decides.{nat_tests}
use Rattle.std.proofs.lemmas.List.{drop_at, drop-drop}
use Rattle.std.proofs.Math.Seq.{drop-append_seam}
use Rattle.std.specs.List.{AllByRecursion, slice_range}
use Rattle.std.specs.Prelude.{◌==◌, find}
use lib.Chars.{codes}
use Rattle.mse_base.specs.Presentation.{has_id}
use Rattle.mse_base.specs.declared.frame.Phase.TheVariants.{Waiting, InInit}
use Rattle.mse_base.specs.declared.track.Kind.{Kind}
use Rattle.mse_base.specs.declared.track.Kind.TheVariants.{Video, Audio, Other}
use Rattle.mse_base.specs.declared.track.TrackInfo.{TrackInfo}
use Rattle.mse_base.specs.declared.track.Presentation.{Presentation}
use Rattle.bmff_boxes.specs.declared.box_header.Header.TheVariants as head
use Rattle.bmff_boxes.specs.Headers.{header_of}
use Rattle.mse_base.specs.Moments.{is_media}
use Rattle.bmff_init.specs.Movies.{init_of}
use Rattle.parser_loop.specs.Items.{InitItem}
use Rattle.parser_loop.specs.Parse.{items_of}
use Rattle.segment_walk.specs.Tables.{SegmentItem}
use Rattle.segment_walk.specs.Segments.{NoFragment, items_of_string, parse_of_boxes}
use Rattle.segment_walk.proofs.Boxes.{enough-boxes}
use Rattle.bmff_write.specs.declared.track_out.TrackOut.{TrackOut}
use Rattle.bmff_write.specs.Fits.{IsFittingTrack}
use Rattle.bmff_write.specs.Tracks.{IsTrackOut, AreTracksOut, AreSampleDescriptions}
use Rattle.bmff_write.specs.Movie.{ftyp_bytes, stsd_bytes, moov_bytes, init_bytes_with, init_bytes}
use Rattle.bmff_write.proofs.BoxLaws.{box_size}
use Rattle.bmff_write.proofs.MovieSizes.{ftyp_size}
use Rattle.written_back.specs.Tracks.{track_read, presentation_read}
use Rattle.written_back.specs.Slots.{AreMedia}
use Rattle.written_back.specs.Segments.{SegmentOut, IsSegmentOf, segments_read, segments_bytes, items_read}
use Rattle.bmff_write.proofs.ReadMovies.{moov_payload, moov_below, moov_small}
use Rattle.bmff_write.proofs.ReadDescriptions.{ftyp_header, plain_descriptions}
use Rattle.written_back.proofs.Movie.{init_written}
use Rattle.written_back.proofs.Walked.{at_header, box_there, part_is, boxes_of, boxes_least, segments_walked}

-- ---- the tracks

media_kind : (kind : Kind) → kind ≢ Other → is_media kind ≡ true
media_kind Video is = refl
media_kind Audio is = refl
media_kind Other is = absurd (is refl)

found_media : (b : Bool) (t : TrackOut) (id : ℕ) (track : TrackInfo) (others : Option TrackInfo) → IsTrackOut t → (t.id == id) ≡ b → cond b (Some (track_read t)) others ≡ Some track
    → (others ≡ Some track → (is_media track.kind ≡ true) × (id < 2 ^ 32)) → (is_media track.kind ≡ true) × (id < 2 ^ 32)
found_media true t id track others one e is later =
    let same : track_read t ≡ track = cc in
    let number : t.id ≡ id = grind (arith, nat_tests) in
    (ap (λ (u : TrackInfo). is_media u.kind) (sym same) ∙ media_kind t.kind one.media, omega (arith, number, one.below))
found_media false t id track others one e is later = later is

-- each track that was written is of video or audio
pub are_media : (ts : List TrackOut) → AllByRecursion IsTrackOut ts → AreMedia (map track_read ts)
are_media [] each id track found = absurd cc
are_media (t ∷ ts) each id track found =
    found_media (t.id == id) t id track (find (has_id id) (map track_read ts)) each.0 refl found (λ h. are_media ts each.1 id track h)

-- ---- the initialization segment

ftyp_step : (n : ℕ) (b : List ℕ) (before : Option Presentation) → header_of b ≡ head.Whole (codes "ftyp") 8 24 → 24 ≤ length b
    → parse_of_boxes (suc n) b before (NoFragment Waiting) 0 ≡ parse_of_boxes n b before (NoFragment InInit) 24
ftyp_step n b before header there =
    let come : leb 24 (length b) ≡ true = grind (arith, nat_tests) in
    at_header n b before (NoFragment Waiting) 0 (head.Whole (codes "ftyp") 8 24) header ∙ rw come refl

moov_step : (n : ℕ) (b : List ℕ) (before : Option Presentation) (at len : ℕ) (p : Presentation) → header_of (drop at b) ≡ head.Whole (codes "moov") 8 len → len ≤ 2 ^ 24 → at + len ≤ length b
    → init_of (slice_range b at (at + len)) ≡ Ok p
    → items_of (parse_of_boxes (suc n) b before (NoFragment InInit) at) ≡ InitItem p at ∷ items_of (parse_of_boxes n b (Some p) (NoFragment Waiting) (at + len))
moov_step n b before at len p header small there read =
    let few : ltb (at + 2 ^ 24) (at + len) ≡ false = grind (arith, nat_tests) in
    let come : leb (at + len) (length b) ≡ true = grind (arith, nat_tests) in
    ap items_of (at_header n b before (NoFragment InInit) at (head.Whole (codes "moov") 8 len) header) ∙ rw (few, come, read) refl

moov_header : (b : List ℕ) (at : ℕ) (ts : List TrackOut) (stsds : List (List ℕ)) (rest : List ℕ) → AreTracksOut ts → AreSampleDescriptions ts stsds → drop at b ≡ moov_bytes ts stsds ++ rest
    → header_of (drop at b) ≡ head.Whole (codes "moov") 8 (length (moov_bytes ts stsds))
unfolding moov_bytes
moov_header b at ts stsds rest are described stands =
    box_there b at (length (moov_bytes ts stsds)) (codes "moov") (moov_payload ts stsds) rest stands refl (moov_small ts stsds are described)
    (sym (box_size (codes "moov") (moov_payload ts stsds) refl))

init_parts : (ts : List TrackOut) (stsds : List (List ℕ)) (rest : List ℕ) → init_bytes_with ts stsds ++ rest ≡ ftyp_bytes ++ (moov_bytes ts stsds ++ rest)
unfolding init_bytes_with
init_parts ts stsds rest = append_assoc ftyp_bytes (moov_bytes ts stsds) rest

pub init_size : (ts : List TrackOut) (stsds : List (List ℕ)) → length (init_bytes_with ts stsds) ≡ 24 + length (moov_bytes ts stsds)
unfolding init_bytes_with
init_size ts stsds = omega (arith, length-append ftyp_bytes (moov_bytes ts stsds), ftyp_size)

-- ---- the string

pub written : (before : Option Presentation) (ts : List TrackOut) (stsds : List (List ℕ)) (segments : List SegmentOut) → AreTracksOut ts → AllByRecursion IsFittingTrack ts → AreSampleDescriptions ts stsds
    → AllByRecursion (IsSegmentOf (map track_read ts)) segments
    → items_of_string before (init_bytes_with ts stsds ++ segments_bytes segments) ≡ items_read ts (length (init_bytes_with ts stsds)) segments
written before ts stsds segments are fits described each =
    let moov : List ℕ = moov_bytes ts stsds in
    let rest : List ℕ = segments_bytes segments in
    let b : List ℕ = init_bytes_with ts stsds ++ rest in
    let p : Presentation = presentation_read ts in
    let parts = init_parts ts stsds rest in
    let m : ℕ = suc (length b) in
    let count : ℕ = boxes_of segments m in
    let least = boxes_least segments m in
    let long = init_size ts stsds in
    let total = length-append (init_bytes_with ts stsds) rest in
    let behind_ftyp : drop 24 b ≡ moov ++ rest = ap (drop 24) parts ∙ drop_at ftyp_bytes (moov ++ rest) 24 ftyp_size in
    let behind_moov : drop (24 + length moov) b ≡ rest = sym (drop-drop (length moov) 24 b) ∙ ap (drop (length moov)) behind_ftyp ∙ drop-append_seam moov rest in
    let first = ftyp_step (suc count) b before (ap header_of parts ∙ ftyp_header (moov ++ rest)) (omega (arith, long, total)) in
    let read = ap init_of (part_is b 24 moov rest behind_ftyp) ∙ init_written ts stsds are fits described in
    let second = moov_step count b before 24 (length moov) p (moov_header b 24 ts stsds rest are described behind_ftyp) (moov_below ts stsds are described) (omega (arith, long, total)) read in
    let others = segments_walked m b p (24 + length moov) segments (are_media ts are.each) each behind_moov in
    let enough = enough-boxes before b (suc (suc count)) (omega (arith, least)) in
    ap items_of (sym enough) ∙ ap items_of first ∙ second
    ∙ ap (λ (xs : List SegmentItem). InitItem p 24 ∷ xs) others
    ∙ ap (λ (n : ℕ). InitItem p 24 ∷ segments_read (map track_read ts) n segments) (sym long)

pub written_plain : (before : Option Presentation) (ts : List TrackOut) (segments : List SegmentOut) → AreTracksOut ts → AllByRecursion IsFittingTrack ts → AllByRecursion (IsSegmentOf (map track_read ts)) segments
    → items_of_string before (init_bytes ts ++ segments_bytes segments) ≡ items_read ts (length (init_bytes ts)) segments
written_plain before ts segments are fits each = written before ts (map stsd_bytes ts) segments are fits (plain_descriptions ts fits) each
