-- Fields of the boxes of a movie fragment box (ISO/IEC 14496-12, 8.8.7, 8.8.8 and 8.8.12).
use Rattle.std.specs.Prelude.{ℕ, ◌+◌, ◌*◌, ℤ, pos, if◌then◌else◌, List, Option, Some}
use Rattle.std.specs.Option.{option_map}
use Rattle.bmff_boxes.specs.declared.entries.TrunSample.{TrunSample}
use Rattle.bmff_boxes.specs.Fields.{field, signed_number, flags_of, is_version, optional_len, optional_field, ◌>>=◌}

-- tfdt, track fragment decode time (8.8.12): baseMediaDecodeTime, eight bytes in version 1 and four in every other
abbrev pub tfdt_time_of : List ℕ → Option ℕ
tfdt_time_of p = if is_version 1 p then field 8 4 p else field 4 4 p

-- tfhd, track fragment header (8.8.7): track_ID, then each of base_data_offset (flag 0x1, eight bytes),
-- sample_description_index (0x2), default_sample_duration (0x8), default_sample_size (0x10) and
-- default_sample_flags (0x20) whose flag is set, one behind the other
abbrev pub tfhd_track_of : List ℕ → Option ℕ
tfhd_track_of p = field 4 4 p

abbrev pub description_place : ℕ → ℕ
description_place flags = 8 + optional_len flags 0x1 8

abbrev pub duration_place : ℕ → ℕ
duration_place flags = description_place flags + optional_len flags 0x2 4

abbrev pub size_place : ℕ → ℕ
size_place flags = duration_place flags + optional_len flags 0x8 4

abbrev pub flags_place : ℕ → ℕ
flags_place flags = size_place flags + optional_len flags 0x10 4

unfoldable pub tfhd_base_of : List ℕ → Option (Option ℕ)
tfhd_base_of p = do
  flags ← flags_of p
  optional_field flags 0x1 8 8 p

unfoldable pub tfhd_description_of : List ℕ → Option (Option ℕ)
tfhd_description_of p = do
  flags ← flags_of p
  optional_field flags 0x2 4 (description_place flags) p

unfoldable pub tfhd_duration_of : List ℕ → Option (Option ℕ)
tfhd_duration_of p = do
  flags ← flags_of p
  optional_field flags 0x8 4 (duration_place flags) p

unfoldable pub tfhd_size_of : List ℕ → Option (Option ℕ)
tfhd_size_of p = do
  flags ← flags_of p
  optional_field flags 0x10 4 (size_place flags) p

unfoldable pub tfhd_flags_of : List ℕ → Option (Option ℕ)
tfhd_flags_of p = do
  flags ← flags_of p
  optional_field flags 0x20 4 (flags_place flags) p

-- trun, track fragment run (8.8.8): sample_count, then data_offset (flag 0x1, signed) and first_sample_flags
-- (0x4), each where its flag is set
abbrev pub trun_count_of : List ℕ → Option ℕ
trun_count_of p = field 4 4 p

unfoldable pub trun_data_offset_of : List ℕ → Option (Option ℤ)
trun_data_offset_of p = do
  flags ← flags_of p
  option_map (option_map (signed_number 4)) (optional_field flags 0x1 4 8 p)

unfoldable pub trun_first_flags_of : List ℕ → Option (Option ℕ)
trun_first_flags_of p = do
  flags ← flags_of p
  optional_field flags 0x4 4 (8 + optional_len flags 0x1 4) p

-- the bytes of one sample: sample_duration (0x100), sample_size (0x200), sample_flags (0x400) and
-- sample_composition_time_offset (0x800), four each, where their flags are set
abbrev pub sample_len : ℕ → ℕ
sample_len flags =
    optional_len flags 0x100 4 + optional_len flags 0x200 4 + optional_len flags 0x400 4
    + optional_len flags 0x800 4

-- where the samples begin
abbrev pub samples_place : ℕ → ℕ
samples_place flags = 8 + optional_len flags 0x1 4 + optional_len flags 0x4 4

-- where sample i begins, the first being 0
abbrev pub sample_place : ℕ → ℕ → ℕ
sample_place flags i = samples_place flags + i * sample_len flags

-- an offset is unsigned in version 0 and signed in every other
abbrev pub composition_offset : List ℕ → ℕ → ℤ
composition_offset p bits = if is_version 0 p then pos bits else signed_number 4 bits

-- the sample that begins at place `at`
abbrev pub trun_sample_at : List ℕ → ℕ → ℕ → Option TrunSample
trun_sample_at p flags at = do
  duration ← optional_field flags 0x100 4 at p
  size ← optional_field flags 0x200 4 (at + optional_len flags 0x100 4) p
  own ← optional_field flags 0x400 4
      (at + optional_len flags 0x100 4 + optional_len flags 0x200 4) p
  offset ← optional_field flags 0x800 4
      (at + optional_len flags 0x100 4 + optional_len flags 0x200 4 + optional_len flags 0x400 4) p
  Some
      (record {
        duration = duration;
        size = size;
        flags = own;
        offset = option_map (composition_offset p) offset;
      })

unfoldable pub trun_sample_of : List ℕ → ℕ → Option TrunSample
trun_sample_of p i = do
  flags ← flags_of p
  trun_sample_at p flags (sample_place flags i)
