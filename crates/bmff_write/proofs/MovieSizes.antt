-- How long the boxes of an initialization segment are, and each container as its header and its parts.
use Rattle.std.proofs.Common.{◌≡◌, ℕ, ◌+◌, ◌*◌, ◌≤◌, ℤ, List, [], ◌∷◌, ◌++◌, length, refl, ◌∙◌, arith, length-append}
use Rattle.std.specs.List.{flat_map}
use lib.Chars.{codes}
use Rattle.mse_base.specs.declared.track.Kind.{Kind}
use Rattle.mse_base.specs.declared.track.Kind.TheVariants.{Video, Audio, Other}
use Rattle.bmff_write.specs.declared.boxes.Field.TheVariants.{Full, U16, U32, I32}
use Rattle.bmff_write.specs.declared.track_out.TrackOut.{TrackOut}
use Rattle.bmff_write.specs.Boxes.{fields_bytes, header_bytes}
use Rattle.bmff_write.specs.Movie.{ftyp_bytes, greatest_number, mvhd_bytes, tkhd_bytes, edit_bytes, elst_bytes, edts_bytes, mdhd_bytes, hdlr_bytes, vmhd_bytes, smhd_bytes, media_header_bytes, url_bytes, dref_bytes, dinf_bytes, visual_entry_bytes, audio_entry_bytes, sample_entry_by, stsd_bytes, empty_table_bytes, stsz_bytes, stbl_bytes, minf_bytes, mdia_bytes, trak_bytes, traks_bytes, trex_bytes, mvex_bytes, moov_bytes}
use Rattle.bmff_write.proofs.BoxLaws.{fields_size, box_size, box_is, box_at, fields_box_size, two_size, three_size}

pub ftyp_size : length ftyp_bytes ≡ 24
unfolding ftyp_bytes
ftyp_size = fields_box_size (codes "ftyp") _ 24 refl refl

pub mvhd_size : (next : ℕ) → length (mvhd_bytes next) ≡ 108
unfolding mvhd_bytes
mvhd_size next = fields_box_size (codes "mvhd") _ 108 refl refl

pub tkhd_size : (t : TrackOut) → length (tkhd_bytes t) ≡ 92
unfolding tkhd_bytes
tkhd_size t = fields_box_size (codes "tkhd") _ 92 refl refl

pub mdhd_size : (scale : ℕ) → length (mdhd_bytes scale) ≡ 32
unfolding mdhd_bytes
mdhd_size scale = fields_box_size (codes "mdhd") _ 32 refl refl

pub hdlr_size : (kind : Kind) → length (hdlr_bytes kind) ≡ 33
unfolding hdlr_bytes
hdlr_size Video = fields_box_size (codes "hdlr") _ 33 refl refl
hdlr_size Audio = fields_box_size (codes "hdlr") _ 33 refl refl
hdlr_size Other = fields_box_size (codes "hdlr") _ 33 refl refl

pub vmhd_size : length vmhd_bytes ≡ 20
unfolding vmhd_bytes
vmhd_size = fields_box_size (codes "vmhd") _ 20 refl refl

pub smhd_size : length smhd_bytes ≡ 16
unfolding smhd_bytes
smhd_size = fields_box_size (codes "smhd") _ 16 refl refl

pub url_size : length url_bytes ≡ 12
unfolding url_bytes
url_size = fields_box_size (codes "url ") _ 12 refl refl

pub visual_entry_size : (codec : List ℕ) → length codec ≡ 4 → length (visual_entry_bytes codec) ≡ 86
unfolding visual_entry_bytes
visual_entry_size codec four = fields_box_size codec _ 86 four refl

pub audio_entry_size : (codec : List ℕ) (scale : ℕ) → length codec ≡ 4 → length (audio_entry_bytes codec scale) ≡ 36
unfolding audio_entry_bytes
audio_entry_size codec scale four = fields_box_size codec _ 36 four refl

pub empty_table_size : (kind : List ℕ) → length kind ≡ 4 → length (empty_table_bytes kind) ≡ 16
unfolding empty_table_bytes
empty_table_size kind four = fields_box_size kind _ 16 four refl

pub stsz_size : length stsz_bytes ≡ 20
unfolding stsz_bytes
stsz_size = fields_box_size (codes "stsz") _ 20 refl refl

pub trex_size : (t : TrackOut) → length (trex_bytes t) ≡ 32
unfolding trex_bytes
trex_size t = fields_box_size (codes "trex") _ 32 refl refl

counted_size : (n : ℕ) → length (fields_bytes (Full 0 0 ∷ U32 n ∷ [])) ≡ 8
counted_size n = fields_size (Full 0 0 ∷ U32 n ∷ [])

edits_size : (edits : List (ℕ × ℤ)) → length (flat_map edit_bytes edits) ≡ 12 * length edits
edits_size [] = refl
edits_size (edit ∷ edits) =
    length-append (edit_bytes edit) (flat_map edit_bytes edits)
    ∙ omega (arith, edits_size edits, fields_size (U32 edit.0 ∷ I32 edit.1 ∷ U16 1 ∷ U16 0 ∷ []))

pub elst_size : (edits : List (ℕ × ℤ)) → length (elst_bytes edits) ≡ 16 + 12 * length edits
unfolding elst_bytes
elst_size edits =
    two_size (codes "elst") (fields_bytes (Full 0 0 ∷ U32 (length edits) ∷ [])) (flat_map edit_bytes edits) refl
    ∙ omega (arith, counted_size (length edits), edits_size edits)

pub elst_is : (edits : List (ℕ × ℤ)) → elst_bytes edits
    ≡ header_bytes (16 + 12 * length edits) (codes "elst")
    ++ (fields_bytes (Full 0 0 ∷ U32 (length edits) ∷ []) ++ flat_map edit_bytes edits)
unfolding elst_bytes
elst_is edits = box_at (codes "elst") _ (16 + 12 * length edits) refl (elst_size edits)

-- no edits
pub edts_none : (edits : List (ℕ × ℤ)) → length edits ≡ 0 → edts_bytes edits ≡ []
unfolding edts_bytes
edts_none [] none = refl
edts_none (edit ∷ edits) none = absurd (omega (arith, none))

pub edts_size : (edits : List (ℕ × ℤ)) → 1 ≤ length edits → length (edts_bytes edits) ≡ 24 + 12 * length edits
unfolding edts_bytes
edts_size [] some = absurd (omega arith)
edts_size (edit ∷ edits) some =
    box_size (codes "edts") (elst_bytes (edit ∷ edits)) refl ∙ omega (arith, elst_size (edit ∷ edits))

pub edts_is : (edits : List (ℕ × ℤ)) → 1 ≤ length edits → edts_bytes edits
    ≡ header_bytes (length (edts_bytes edits)) (codes "edts") ++ elst_bytes edits
unfolding edts_bytes
edts_is [] some = absurd (omega arith)
edts_is (edit ∷ edits) some = box_is (codes "edts") _ refl

pub dref_size : length dref_bytes ≡ 28
unfolding dref_bytes
dref_size =
    two_size (codes "dref") (fields_bytes (Full 0 0 ∷ U32 1 ∷ [])) url_bytes refl ∙ omega (arith, counted_size 1, url_size)

pub dref_is : dref_bytes
    ≡ header_bytes 28 (codes "dref") ++ (fields_bytes (Full 0 0 ∷ U32 1 ∷ []) ++ url_bytes)
unfolding dref_bytes
dref_is = box_at (codes "dref") _ 28 refl dref_size

pub dinf_size : length dinf_bytes ≡ 36
unfolding dinf_bytes
dinf_size = box_size (codes "dinf") dref_bytes refl ∙ omega (arith, dref_size)

pub dinf_is : dinf_bytes ≡ header_bytes 36 (codes "dinf") ++ dref_bytes
unfolding dinf_bytes
dinf_is = box_at (codes "dinf") _ 36 refl dinf_size

pub stsd_size : (t : TrackOut) → length (stsd_bytes t) ≡ 16 + length (sample_entry_by t.kind t.codec t.scale)
unfolding stsd_bytes
stsd_size t =
    two_size (codes "stsd") (fields_bytes (Full 0 0 ∷ U32 1 ∷ [])) (sample_entry_by t.kind t.codec t.scale) refl
    ∙ omega (arith, counted_size 1)

pub stsd_is : (t : TrackOut) → stsd_bytes t
    ≡ header_bytes (16 + length (sample_entry_by t.kind t.codec t.scale)) (codes "stsd")
    ++ (fields_bytes (Full 0 0 ∷ U32 1 ∷ []) ++ sample_entry_by t.kind t.codec t.scale)
unfolding stsd_bytes
stsd_is t = box_at (codes "stsd") _ (16 + length (sample_entry_by t.kind t.codec t.scale)) refl (stsd_size t)

pub stbl_size : (stsd : List ℕ) → length (stbl_bytes stsd) ≡ 76 + length stsd
unfolding stbl_bytes
stbl_size stsd =
    let stts = empty_table_bytes (codes "stts") in
    let stsc = empty_table_bytes (codes "stsc") in
    let stco = empty_table_bytes (codes "stco") in
    three_size (codes "stbl") stsd stts (stsc ++ (stsz_bytes ++ stco)) refl
    ∙ omega (
      arith,
      length-append stsc (stsz_bytes ++ stco),
      length-append stsz_bytes stco,
      empty_table_size (codes "stts") refl,
      empty_table_size (codes "stsc") refl,
      empty_table_size (codes "stco") refl,
      stsz_size,
    )

pub stbl_is : (stsd : List ℕ) → stbl_bytes stsd
    ≡ header_bytes (length (stbl_bytes stsd)) (codes "stbl")
    ++ (stsd ++ (empty_table_bytes (codes "stts") ++ (empty_table_bytes (codes "stsc")
    ++ (stsz_bytes ++ empty_table_bytes (codes "stco")))))
unfolding stbl_bytes
stbl_is stsd = box_is (codes "stbl") _ refl

pub minf_size : (kind : Kind) (stsd : List ℕ) → length (minf_bytes kind stsd)
    ≡ 44 + (length (media_header_bytes kind) + length (stbl_bytes stsd))
unfolding minf_bytes
minf_size kind stsd =
    three_size (codes "minf") (media_header_bytes kind) dinf_bytes (stbl_bytes stsd) refl ∙ omega (arith, dinf_size)

pub minf_is : (kind : Kind) (stsd : List ℕ) → minf_bytes kind stsd
    ≡ header_bytes (length (minf_bytes kind stsd)) (codes "minf")
    ++ (media_header_bytes kind ++ (dinf_bytes ++ stbl_bytes stsd))
unfolding minf_bytes
minf_is kind stsd = box_is (codes "minf") _ refl

pub mdia_size : (t : TrackOut) (stsd : List ℕ) → length (mdia_bytes t stsd) ≡ 73 + length (minf_bytes t.kind stsd)
unfolding mdia_bytes
mdia_size t stsd =
    three_size (codes "mdia") (mdhd_bytes t.scale) (hdlr_bytes t.kind) (minf_bytes t.kind stsd) refl
    ∙ omega (arith, mdhd_size t.scale, hdlr_size t.kind)

pub mdia_is : (t : TrackOut) (stsd : List ℕ) → mdia_bytes t stsd
    ≡ header_bytes (length (mdia_bytes t stsd)) (codes "mdia")
    ++ (mdhd_bytes t.scale ++ (hdlr_bytes t.kind ++ minf_bytes t.kind stsd))
unfolding mdia_bytes
mdia_is t stsd = box_is (codes "mdia") _ refl

pub trak_size : (t : TrackOut) (stsd : List ℕ) → length (trak_bytes t stsd)
    ≡ 100 + (length (edts_bytes t.edits) + length (mdia_bytes t stsd))
unfolding trak_bytes
trak_size t stsd =
    three_size (codes "trak") (tkhd_bytes t) (edts_bytes t.edits) (mdia_bytes t stsd) refl ∙ omega (arith, tkhd_size t)

pub trak_is : (t : TrackOut) (stsd : List ℕ) → trak_bytes t stsd
    ≡ header_bytes (length (trak_bytes t stsd)) (codes "trak")
    ++ (tkhd_bytes t ++ (edts_bytes t.edits ++ mdia_bytes t stsd))
unfolding trak_bytes
trak_is t stsd = box_is (codes "trak") _ refl

trexes_size : (tracks : List TrackOut) → length (flat_map trex_bytes tracks) ≡ 32 * length tracks
trexes_size [] = refl
trexes_size (t ∷ ts) =
    length-append (trex_bytes t) (flat_map trex_bytes ts) ∙ omega (arith, trex_size t, trexes_size ts)

pub mvex_size : (tracks : List TrackOut) → length (mvex_bytes tracks) ≡ 8 + 32 * length tracks
unfolding mvex_bytes
mvex_size tracks =
    box_size (codes "mvex") (flat_map trex_bytes tracks) refl ∙ omega (arith, trexes_size tracks)

pub mvex_is : (tracks : List TrackOut) → mvex_bytes tracks
    ≡ header_bytes (length (mvex_bytes tracks)) (codes "mvex") ++ flat_map trex_bytes tracks
unfolding mvex_bytes
mvex_is tracks = box_is (codes "mvex") _ refl

pub moov_size : (tracks : List TrackOut) (stsds : List (List ℕ)) → length (moov_bytes tracks stsds)
    ≡ 116 + (length (traks_bytes tracks stsds) + length (mvex_bytes tracks))
unfolding moov_bytes
moov_size tracks stsds =
    three_size (codes "moov") (mvhd_bytes (greatest_number tracks + 1)) (traks_bytes tracks stsds) (mvex_bytes tracks) refl
    ∙ omega (arith, mvhd_size (greatest_number tracks + 1))

pub moov_is : (tracks : List TrackOut) (stsds : List (List ℕ)) → moov_bytes tracks stsds
    ≡ header_bytes (length (moov_bytes tracks stsds)) (codes "moov")
    ++ (mvhd_bytes (greatest_number tracks + 1) ++ (traks_bytes tracks stsds ++ mvex_bytes tracks))
unfolding moov_bytes
moov_is tracks stsds = box_is (codes "moov") _ refl

entry_below : (kind : Kind) (codec : List ℕ) (scale : ℕ) → length codec ≡ 4 → length (sample_entry_by kind codec scale) ≤ 86
entry_below Video codec scale four = omega (arith, visual_entry_size codec four)
entry_below Audio codec scale four = omega (arith, audio_entry_size codec scale four)
entry_below Other codec scale four = omega (arith, visual_entry_size codec four)

-- a plain sample description is short
pub stsd_below : (t : TrackOut) → length t.codec ≡ 4 → length (stsd_bytes t) ≤ 102
stsd_below t four = let e = entry_below t.kind t.codec t.scale four in omega (arith, stsd_size t, e)
