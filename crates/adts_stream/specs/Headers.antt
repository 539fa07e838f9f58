-- The header of an ADTS frame (ISO/IEC 14496-3, 1.A.2.2, adts_fixed_header and adts_variable_header; ISO/IEC 13818-7,
-- 6.2), and the tags that may stand between frames in an MPEG audio byte stream: ID3v2 and ID3v1.
use Rattle.std.specs.Prelude.{ℕ, ◌+◌, ◌-◌, ◌*◌, ◌/◌, ◌%◌, ◌^◌, pos, nat_lt, ◌==◌, ◌&&◌, if◌then◌else◌, List, [], ◌∷◌, length, slice_index, slice_get, Option, Some, None}
use Rattle.std.specs.Str.{bytes_eq}
use lib.Chars.{codes}
use Rattle.byteorder.specs.Endian.{big_number}
use Rattle.mse_base.specs.Time.{media_ticks}
use Rattle.adts_stream.specs.declared.next.AdtsFault.TheVariants as fault
use Rattle.adts_stream.specs.declared.header.Found.{Found}
use Rattle.adts_stream.specs.declared.header.Found.TheVariants as found

-- ---- the fields of a frame's header

-- Bytes 0 to 6, the highest first, are a header of 56 bits: the number in the `width` bits from bit `at` on.
abbrev pub bits : ℕ → ℕ → ℕ → ℕ
bits at width header = header / 2 ^ (56 - (at + width)) % 2 ^ width

abbrev pub syncword : ℕ → ℕ
syncword header = bits 0 12 header

abbrev pub layer : ℕ → ℕ
layer header = bits 13 2 header

abbrev pub protection_absent : ℕ → ℕ
protection_absent header = bits 15 1 header

abbrev pub sampling_frequency_index : ℕ → ℕ
sampling_frequency_index header = bits 18 4 header

-- the bytes of the frame, with its header
abbrev pub frame_length : ℕ → ℕ
frame_length header = bits 30 13 header

-- the header has the number of raw data blocks minus one
abbrev pub raw_data_blocks : ℕ → ℕ
raw_data_blocks header = bits 54 2 header + 1

-- samples in a second, by sampling_frequency_index (ISO/IEC 14496-3, 1.6.3.4)
abbrev pub sampling_frequencies : List ℕ
sampling_frequencies =
    96000 ∷ 88200 ∷ 64000 ∷ 48000 ∷ 44100 ∷ 32000 ∷ 24000 ∷ 22050 ∷ 16000 ∷ 12000 ∷ 11025 ∷ 8000
    ∷ 7350 ∷ []

-- Both headers have 7 bytes. Where protection is not absent, two bytes for the place of each raw data block after the
-- first, and two bytes of check, go with them (adts_header_error_check).
abbrev pub header_length : ℕ → ℕ
header_length header =
    if protection_absent header == 0 then 9 + 2 * (raw_data_blocks header - 1) else 7

-- a raw data block has 1024 samples
abbrev pub frame_of_length : ℕ → ℕ → Found
frame_of_length header rate =
    if nat_lt (frame_length header) (header_length header) then found.Fault fault.Length
    else found.Frame
    (record {
      rate = rate;
      duration = media_ticks (pos (1024 * raw_data_blocks header)) rate;
      len = frame_length header;
    })

abbrev pub frame_of_rate : ℕ → Option ℕ → Found
frame_of_rate header None = found.Fault fault.Rate
frame_of_rate header (Some rate) = frame_of_length header rate

-- the frame of a header, or what is wrong with it
unfoldable pub frame_found : ℕ → Found
frame_found header =
    if (syncword header == 4095) && (layer header == 0)
    then frame_of_rate header (slice_get sampling_frequencies (sampling_frequency_index header))
    else found.Fault fault.Sync

-- ---- tags

abbrev pub first_three : List ℕ → List ℕ
first_three b = slice_index b 0 ∷ slice_index b 1 ∷ slice_index b 2 ∷ []

-- a number of 28 bits in four bytes from place i on, of which each has the highest bit clear (ID3v2.4.0, 6.2)
abbrev pub synchsafe : List ℕ → ℕ → ℕ
synchsafe b i =
    ((slice_index b i % 128 * 128 + slice_index b (i + 1) % 128) * 128
    + slice_index b (i + 2) % 128)
    * 128
    + slice_index b (i + 3) % 128

-- the footer of ten bytes is there where bit 4 of the flags is set (ID3v2.4.0, 3.1 and 3.4)
abbrev pub footer_length : List ℕ → ℕ
footer_length b = if slice_index b 5 / 16 % 2 == 1 then 10 else 0

-- an ID3v2 tag: a header of ten bytes, as many as its size says, and the footer
unfoldable pub id3_length : List ℕ → ℕ
id3_length b = 10 + synchsafe b 6 + footer_length b

-- ---- what stands in front

-- An ID3v2 tag is known by the ten bytes of its header, an ID3v1 tag of 128 bytes by its first three. All else must be
-- a frame.
unfoldable pub found_at : List ℕ → Found
found_at b =
    if nat_lt (length b) 3 then found.Nothing
    else (if bytes_eq (first_three b) (codes "ID3")
    then (if nat_lt (length b) 10 then found.Nothing else found.Tag (id3_length b))
    else (if bytes_eq (first_three b) (codes "TAG") then found.Tag 128
    else (if nat_lt (length b) 7 then found.Nothing else frame_found (big_number 7 b))))
