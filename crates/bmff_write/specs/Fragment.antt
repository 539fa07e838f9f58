-- A media segment of one movie fragment (ISO/IEC 14496-12, 8.8 and 8.1.1), box by box.
use Rattle.std.specs.Prelude.{ℕ, ◌+◌, ◌*◌, Bool, true, false, List, [], ◌∷◌, ◌++◌, length, sum_by}
use Rattle.std.specs.List.{flat_map}
use lib.Chars.{codes}
use Rattle.bmff_write.specs.declared.boxes.Field.TheVariants.{Full, U32, I32, U64}
use Rattle.bmff_write.specs.declared.traf_out.SampleOut.{SampleOut}
use Rattle.bmff_write.specs.declared.traf_out.TrafOut.{TrafOut}
use Rattle.bmff_write.specs.Boxes.{fields_bytes, box_bytes, full_box}
use Rattle.bmff_write.specs.Tracks.{payload_len}

-- mfhd, movie fragment header (8.8.5): sequence_number
unfoldable pub mfhd_bytes : ℕ → List ℕ
mfhd_bytes sequence = full_box (codes "mfhd") 0 0 (U32 sequence ∷ [])

-- tfhd, track fragment header (8.8.7), with default-base-is-moof: track_ID
unfoldable pub tfhd_bytes : ℕ → List ℕ
tfhd_bytes id = full_box (codes "tfhd") 0 0x020000 (U32 id ∷ [])

-- tfdt, track fragment decode time (8.8.12), version 1: baseMediaDecodeTime
unfoldable pub tfdt_bytes : ℕ → List ℕ
tfdt_bytes decode = full_box (codes "tfdt") 1 0 (U64 decode ∷ [])

-- the flags of a sample (8.8.3.1): it depends on no other, or it depends on others and is no sync sample
abbrev pub sample_flags : Bool → ℕ
sample_flags true = 0x02000000
sample_flags false = 0x01010000

-- a sample in trun: duration, size, flags, composition time offset
abbrev pub sample_bytes : SampleOut → List ℕ
sample_bytes s =
    fields_bytes
    (U32 s.duration ∷ U32 (length s.payload) ∷ U32 (sample_flags s.sync) ∷ I32 s.offset ∷ [])

-- trun, track fragment run (8.8.8), version 1, with a data offset and all fields of each sample: sample_count,
-- data_offset, the samples
unfoldable pub trun_bytes : ℕ → List SampleOut → List ℕ
trun_bytes at samples =
    box_bytes (codes "trun")
    (fields_bytes (Full 1 0x000f01 ∷ U32 (length samples) ∷ U32 at ∷ [])
    ++ flat_map sample_bytes samples)

-- traf, track fragment (8.8.6), with the place of its first byte of payload from the moof's first byte on
unfoldable pub traf_bytes : ℕ → TrafOut → List ℕ
traf_bytes at t =
    box_bytes (codes "traf") (tfhd_bytes t.id ++ (tfdt_bytes t.decode ++ trun_bytes at t.samples))

-- the track fragments, whose payloads stand one after the other
unfoldable pub trafs_bytes : ℕ → List TrafOut → List ℕ
trafs_bytes at [] = []
trafs_bytes at (t ∷ ts) = traf_bytes at t ++ trafs_bytes (at + payload_len t.samples) ts

-- how many bytes a track fragment has, and a movie fragment
abbrev pub traf_len : TrafOut → ℕ
traf_len t = 64 + 16 * length t.samples

abbrev pub moof_len : List TrafOut → ℕ
moof_len trafs = 24 + sum_by traf_len trafs

-- moof, movie fragment (8.8.4); the payloads begin behind it and the header of mdat
unfoldable pub moof_bytes : ℕ → List TrafOut → List ℕ
moof_bytes sequence trafs =
    box_bytes (codes "moof") (mfhd_bytes sequence ++ trafs_bytes (moof_len trafs + 8) trafs)

-- the payloads of the samples
abbrev pub payloads_of : List SampleOut → List ℕ
payloads_of samples = flat_map (λ s. s.payload) samples

-- mdat, media data (8.1.1)
unfoldable pub mdat_bytes : List TrafOut → List ℕ
mdat_bytes trafs = box_bytes (codes "mdat") (flat_map (λ t. payloads_of t.samples) trafs)

-- a media segment of this sequence number
unfoldable pub segment_bytes : ℕ → List TrafOut → List ℕ
segment_bytes sequence trafs = moof_bytes sequence trafs ++ mdat_bytes trafs
