-- Plain sample descriptions and the file type box, read back.
use Rattle.std.proofs.Common.{◌≡◌, ◌∙◌, ℕ, ◌+◌, ◌<◌, ◌≤◌, ◌^◌, List, [], ◌∷◌, ◌++◌, length, map, drop, Option, Some, None, append-nil, ap, subst, refl, sym, arith}
use Rattle.std.proofs.lemmas.List.{drop_at}
use Rattle.std.specs.List.{AllByRecursion}
use Rattle.std.specs.Prelude.{IsSomeAnd}
use lib.Chars.{codes}
use Rattle.mse_base.specs.declared.track.Kind.{Kind}
use Rattle.mse_base.specs.declared.track.Kind.TheVariants.{Video, Audio, Other}
use Rattle.bmff_boxes.specs.declared.box_header.Header.{Header}
use Rattle.bmff_boxes.specs.declared.box_header.Header.TheVariants as head
use Rattle.bmff_boxes.specs.Headers.{header_of}
use Rattle.bmff_boxes.specs.Children.{child_of}
use Rattle.bmff_boxes.specs.MovieFields.{entry_count_of}
use Rattle.bmff_write.specs.declared.boxes.Field.{Field}
use Rattle.bmff_write.specs.declared.boxes.Field.TheVariants.{Full, U32, Code, Zeros}
use Rattle.bmff_write.specs.declared.track_out.TrackOut.{TrackOut}
use Rattle.bmff_write.specs.Boxes.{fields_bytes, fields_len, box_bytes, box_of}
use Rattle.bmff_write.specs.Fits.{IsFittingTrack}
use Rattle.bmff_write.specs.Tracks.{HasType, IsSampleDescription, AreSampleDescriptions}
use Rattle.bmff_write.specs.Movie.{ftyp_bytes, visual_entry_bytes, audio_entry_bytes, sample_entry_by, stsd_bytes}
use Rattle.bmff_write.proofs.BoxLaws.{box_size, fields_size}
use Rattle.bmff_write.proofs.MovieSizes.{stsd_below}
use Rattle.bmff_write.proofs.ReadBoxes.{box_header, box_child}
use Rattle.bmff_write.proofs.ReadFields.{u32_written}

-- ---- plain sample descriptions

abbrev stsd_fields : List Field
stsd_fields = Full 0 0 ∷ U32 1 ∷ []

abbrev plain_payload : TrackOut → List ℕ
plain_payload t = fields_bytes stsd_fields ++ sample_entry_by t.kind t.codec t.scale

has_type : (codec : List ℕ) (h : Header) (len : ℕ) → h ≡ head.Whole codec 8 len → HasType codec h
has_type codec h len e = subst (HasType codec) (sym e) refl

plain_header : (codec : List ℕ) (fields : List Field) → length codec ≡ 4 → fields_len fields < 2 ^ 31 → HasType codec (header_of (box_of codec fields))
plain_header codec fields four small =
    has_type codec (header_of (box_of codec fields)) (8 + length (fields_bytes fields))
    (ap header_of (sym (append-nil (box_of codec fields))) ∙ box_header codec (fields_bytes fields) [] four (omega (arith, fields_size fields, small)))

entry_header : (kind : Kind) (codec : List ℕ) (scale : ℕ) → length codec ≡ 4 → HasType codec (header_of (sample_entry_by kind codec scale))
unfolding visual_entry_bytes audio_entry_bytes
entry_header Video codec scale four = plain_header codec _ four (omega arith)
entry_header Audio codec scale four = plain_header codec _ four (omega arith)
entry_header Other codec scale four = plain_header codec _ four (omega arith)

plain_small : (t : TrackOut) → length t.codec ≡ 4 → 8 + length (plain_payload t) < 2 ^ 32
unfolding stsd_bytes
plain_small t four =
    let a = stsd_below t four in
    let b = box_size (codes "stsd") (plain_payload t) refl in
    omega (arith, a, b)

one_counted : (o : Option ℕ) → o ≡ Some 1 → IsSomeAnd o (λ n. 1 ≤ n)
one_counted None e = absurd cc
one_counted (Some n) e = let is : n ≡ 1 = cc in omega (arith, is)

plain_description : (t : TrackOut) → length t.codec ≡ 4 → IsSampleDescription t.codec (stsd_bytes t)
unfolding stsd_bytes
plain_description t four =
    let payload : List ℕ = plain_payload t in
    let stsd : List ℕ = box_bytes (codes "stsd") payload in
    let below = stsd_below t four in
    let counted : entry_count_of payload ≡ Some 1 = u32_written (Full 0 0 ∷ []) [] (sample_entry_by t.kind t.codec t.scale) 1 (omega arith) in
    let behind : drop 8 payload ≡ sample_entry_by t.kind t.codec t.scale = drop_at (fields_bytes stsd_fields) (sample_entry_by t.kind t.codec t.scale) 8 (fields_size stsd_fields) in
    record {
      short = omega (arith, below);
      payload = payload;
      whole = ap child_of (sym (append-nil stsd)) ∙ box_child (codes "stsd") payload [] refl (plain_small t four);
      counted = one_counted (entry_count_of payload) counted;
      entry = subst (λ (xs : List ℕ). HasType t.codec (header_of xs)) (sym behind) (entry_header t.kind t.codec t.scale four);
    }

pub plain_descriptions : (ts : List TrackOut) → AllByRecursion IsFittingTrack ts → AreSampleDescriptions ts (map stsd_bytes ts)
plain_descriptions [] fits = tt
plain_descriptions (t ∷ ts) fits = (let one = fits.0 in plain_description t one.codec, plain_descriptions ts fits.1)

-- ---- the file type box

pub ftyp_header : (rest : List ℕ) → header_of (ftyp_bytes ++ rest) ≡ head.Whole (codes "ftyp") 8 24
unfolding ftyp_bytes
ftyp_header rest =
    let fields : List Field = Code (codes "iso6") ∷ Zeros 4 ∷ Code (codes "iso6") ∷ Code (codes "mp41") ∷ [] in
    let size = fields_size fields in
    box_header (codes "ftyp") (fields_bytes fields) rest refl (omega (arith, size)) ∙ ap (head.Whole (codes "ftyp") 8) (let e : 8 + length (fields_bytes fields) ≡ 24 = omega (arith, size) in e)
