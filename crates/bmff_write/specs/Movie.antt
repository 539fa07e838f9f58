-- An initialization segment without samples (ISO/IEC 14496-12, 8.2 to 8.8), box by box. All boxes are of
-- version 0.
use Rattle.std.specs.Prelude.{ℕ, ◌+◌, ◌*◌, nat_le, max, if◌then◌else◌, ℤ, List, [], ◌∷◌, ◌++◌, length, map}
use Rattle.std.specs.List.{flat_map}
use lib.Chars.{codes}
use Rattle.mse_base.specs.declared.track.Kind.{Kind}
use Rattle.mse_base.specs.declared.track.Kind.TheVariants.{Video, Audio, Other}
use Rattle.bmff_write.specs.declared.boxes.Field.{Field}
use Rattle.bmff_write.specs.declared.boxes.Field.TheVariants.{Full, U16, U32, I32, Code, Zeros}
use Rattle.bmff_write.specs.declared.track_out.TrackOut.{TrackOut}
use Rattle.bmff_write.specs.Boxes.{fields_bytes, box_bytes, box_of, full_box}

-- ftyp, file type (4.3): major_brand, minor_version, compatible_brands
unfoldable pub ftyp_bytes : List ℕ
ftyp_bytes =
    box_of (codes "ftyp")
    (Code (codes "iso6") ∷ Zeros 4 ∷ Code (codes "iso6") ∷ Code (codes "mp41") ∷ [])

-- the unity matrix (6.2.2)
abbrev pub unity_matrix : List Field
unity_matrix = U32 0x00010000 ∷ Zeros 12 ∷ U32 0x00010000 ∷ Zeros 12 ∷ U32 0x40000000 ∷ []

-- the greatest number of a track
abbrev pub greatest_number : List TrackOut → ℕ
greatest_number [] = 0
greatest_number (t ∷ ts) = max t.id (greatest_number ts)

-- mvhd, movie header (8.2.2): creation_time and modification_time, timescale, duration, rate, volume, reserved
-- bytes, the matrix, pre_defined bytes, next_track_ID
unfoldable pub mvhd_bytes : ℕ → List ℕ
mvhd_bytes next =
    full_box (codes "mvhd") 0 0
    (Zeros 8 ∷ U32 1000 ∷ Zeros 4 ∷ U32 0x00010000 ∷ U16 0x0100 ∷ Zeros 10
    ∷ (unity_matrix ++ Zeros 24 ∷ U32 next ∷ []))

-- what is written of a track of another kind, which no condition admits, is that of video
abbrev pub volume_of : Kind → ℕ
volume_of Video = 0
volume_of Audio = 0x0100
volume_of Other = 0

-- tkhd, track header (8.3.2), of a track that is enabled and used: creation_time and modification_time,
-- track_ID, then reserved bytes, duration, reserved bytes, layer and alternate_group; volume, reserved bytes,
-- the matrix, width and height
unfoldable pub tkhd_bytes : TrackOut → List ℕ
tkhd_bytes t =
    full_box (codes "tkhd") 0 7
    (Zeros 8 ∷ U32 t.id ∷ Zeros 20 ∷ U16 (volume_of t.kind) ∷ Zeros 2
    ∷ (unity_matrix ++ Zeros 8 ∷ []))

-- an entry of elst: segment_duration, media_time, media_rate 1
abbrev pub edit_bytes : ℕ × ℤ → List ℕ
edit_bytes edit = fields_bytes (U32 edit.0 ∷ I32 edit.1 ∷ U16 1 ∷ U16 0 ∷ [])

-- elst, edit list (8.6.6): entry_count, and the entries
unfoldable pub elst_bytes : List (ℕ × ℤ) → List ℕ
elst_bytes edits =
    box_bytes (codes "elst")
    (fields_bytes (Full 0 0 ∷ U32 (length edits) ∷ []) ++ flat_map edit_bytes edits)

-- edts, edit (8.6.5), where there are edits
unfoldable pub edts_bytes : List (ℕ × ℤ) → List ℕ
edts_bytes [] = []
edts_bytes (edit ∷ edits) = box_bytes (codes "edts") (elst_bytes (edit ∷ edits))

-- mdhd, media header (8.4.2): creation_time and modification_time, timescale, duration, language `und`,
-- pre_defined bytes
unfoldable pub mdhd_bytes : ℕ → List ℕ
mdhd_bytes scale =
    full_box (codes "mdhd") 0 0 (Zeros 8 ∷ U32 scale ∷ Zeros 4 ∷ U16 0x55c4 ∷ Zeros 2 ∷ [])

abbrev pub handler_of : Kind → List ℕ
handler_of Video = codes "vide"
handler_of Audio = codes "soun"
handler_of Other = codes "vide"

-- hdlr, handler reference (8.4.3): pre_defined bytes, handler_type, reserved bytes, an empty name with the byte
-- that ends it
unfoldable pub hdlr_bytes : Kind → List ℕ
hdlr_bytes kind =
    full_box (codes "hdlr") 0 0 (Zeros 4 ∷ Code (handler_of kind) ∷ Zeros 12 ∷ Zeros 1 ∷ [])

-- vmhd, video media header (12.1.2): graphicsmode and opcolor
unfoldable pub vmhd_bytes : List ℕ
vmhd_bytes = full_box (codes "vmhd") 0 1 (Zeros 8 ∷ [])

-- smhd, sound media header (12.2.2): balance and reserved bytes
unfoldable pub smhd_bytes : List ℕ
smhd_bytes = full_box (codes "smhd") 0 0 (Zeros 4 ∷ [])

abbrev pub media_header_bytes : Kind → List ℕ
media_header_bytes Video = vmhd_bytes
media_header_bytes Audio = smhd_bytes
media_header_bytes Other = vmhd_bytes

-- url, data entry URL (8.7.2): the media are in the same file
unfoldable pub url_bytes : List ℕ
url_bytes = full_box (codes "url ") 0 1 []

-- dref, data reference (8.7.2): entry_count, and the entry
unfoldable pub dref_bytes : List ℕ
dref_bytes = box_bytes (codes "dref") (fields_bytes (Full 0 0 ∷ U32 1 ∷ []) ++ url_bytes)

-- dinf, data information (8.7.1)
unfoldable pub dinf_bytes : List ℕ
dinf_bytes = box_bytes (codes "dinf") dref_bytes

-- a visual sample entry (12.1.3): reserved bytes, data_reference_index, pre_defined and reserved bytes, width
-- and height, horizresolution and vertresolution of 72 dpi, reserved bytes, frame_count, compressorname, depth,
-- pre_defined -1
unfoldable pub visual_entry_bytes : List ℕ → List ℕ
visual_entry_bytes codec =
    box_of codec
    (Zeros 6 ∷ U16 1 ∷ Zeros 16 ∷ Zeros 4 ∷ U32 0x00480000 ∷ U32 0x00480000 ∷ Zeros 4 ∷ U16 1
    ∷ Zeros 32
    ∷ U16 0x0018 ∷ U16 0xffff ∷ [])

-- a sampling rate as a fixed-point number with 16 bits before the point; 0 where it does not fit them
abbrev pub rate_of : ℕ → ℕ
rate_of scale = if nat_le scale 65535 then scale * 65536 else 0

-- an audio sample entry (12.2.3): reserved bytes, data_reference_index, reserved bytes, channelcount,
-- samplesize, pre_defined and reserved bytes, samplerate
unfoldable pub audio_entry_bytes : List ℕ → ℕ → List ℕ
audio_entry_bytes codec scale =
    box_of codec (Zeros 6 ∷ U16 1 ∷ Zeros 8 ∷ U16 2 ∷ U16 16 ∷ Zeros 4 ∷ U32 (rate_of scale) ∷ [])

abbrev pub sample_entry_by : Kind → List ℕ → ℕ → List ℕ
sample_entry_by Video codec scale = visual_entry_bytes codec
sample_entry_by Audio codec scale = audio_entry_bytes codec scale
sample_entry_by Other codec scale = visual_entry_bytes codec

-- stsd, sample description (8.5.2): entry_count, and the sample entry
unfoldable pub stsd_bytes : TrackOut → List ℕ
stsd_bytes t =
    box_bytes (codes "stsd")
    (fields_bytes (Full 0 0 ∷ U32 1 ∷ []) ++ sample_entry_by t.kind t.codec t.scale)

-- a table of no entries: stts (8.6.1.2), stsc (8.7.4), stco (8.7.5)
unfoldable pub empty_table_bytes : List ℕ → List ℕ
empty_table_bytes kind = full_box kind 0 0 (U32 0 ∷ [])

-- stsz, sample size (8.7.3): sample_size and sample_count
unfoldable pub stsz_bytes : List ℕ
stsz_bytes = full_box (codes "stsz") 0 0 (U32 0 ∷ U32 0 ∷ [])

-- stbl, sample table (8.5.1), with this sample description box
unfoldable pub stbl_bytes : List ℕ → List ℕ
stbl_bytes stsd =
    box_bytes (codes "stbl")
    (stsd ++ (empty_table_bytes (codes "stts") ++ (empty_table_bytes (codes "stsc")
    ++ (stsz_bytes ++ empty_table_bytes (codes "stco")))))

-- minf, media information (8.4.4)
unfoldable pub minf_bytes : Kind → List ℕ → List ℕ
minf_bytes kind stsd =
    box_bytes (codes "minf") (media_header_bytes kind ++ (dinf_bytes ++ stbl_bytes stsd))

-- mdia, media (8.4.1)
unfoldable pub mdia_bytes : TrackOut → List ℕ → List ℕ
mdia_bytes t stsd =
    box_bytes (codes "mdia") (mdhd_bytes t.scale ++ (hdlr_bytes t.kind ++ minf_bytes t.kind stsd))

-- trak, track (8.3.1)
unfoldable pub trak_bytes : TrackOut → List ℕ → List ℕ
trak_bytes t stsd =
    box_bytes (codes "trak") (tkhd_bytes t ++ (edts_bytes t.edits ++ mdia_bytes t stsd))

-- the tracks, each with its sample description box
unfoldable pub traks_bytes : List TrackOut → List (List ℕ) → List ℕ
traks_bytes [] stsds = []
traks_bytes (t ∷ ts) [] = []
traks_bytes (t ∷ ts) (stsd ∷ stsds) = trak_bytes t stsd ++ traks_bytes ts stsds

-- trex, track extends (8.8.3): track_ID, default_sample_description_index, and the defaults of duration, size
-- and flags
unfoldable pub trex_bytes : TrackOut → List ℕ
trex_bytes t = full_box (codes "trex") 0 0 (U32 t.id ∷ U32 1 ∷ Zeros 12 ∷ [])

-- mvex, movie extends (8.8.1)
unfoldable pub mvex_bytes : List TrackOut → List ℕ
mvex_bytes tracks = box_bytes (codes "mvex") (flat_map trex_bytes tracks)

-- moov, movie (8.2.1)
unfoldable pub moov_bytes : List TrackOut → List (List ℕ) → List ℕ
moov_bytes tracks stsds =
    box_bytes (codes "moov")
    (mvhd_bytes (greatest_number tracks + 1) ++ (traks_bytes tracks stsds ++ mvex_bytes tracks))

-- an initialization segment of these tracks with these sample description boxes
unfoldable pub init_bytes_with : List TrackOut → List (List ℕ) → List ℕ
init_bytes_with tracks stsds = ftyp_bytes ++ moov_bytes tracks stsds

-- an initialization segment of these tracks
abbrev pub init_bytes : List TrackOut → List ℕ
init_bytes tracks = init_bytes_with tracks (map stsd_bytes tracks)
