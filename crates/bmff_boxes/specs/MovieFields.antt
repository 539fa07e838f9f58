-- Fields of the boxes of a movie box (ISO/IEC 14496-12, 8.2 to 8.8). In version 1 some fields have eight
-- bytes and those behind them stand farther on; every other version is read as version 0.
use Rattle.std.specs.Prelude.{ℕ, ◌+◌, ◌*◌, nat_lt, if◌then◌else◌, List, length, Option, Some, None}
use Rattle.bmff_boxes.specs.declared.entries.EditEntry.{EditEntry}
use Rattle.bmff_boxes.specs.Headers.{four_at}
use Rattle.bmff_boxes.specs.Fields.{field, signed_field, is_version, ◌>>=◌}

-- mvhd, movie header (8.2.2): creation_time and modification_time, then timescale and duration
abbrev pub mvhd_scale_of : List ℕ → Option ℕ
mvhd_scale_of p = if is_version 1 p then field 4 20 p else field 4 12 p

abbrev pub mvhd_duration_of : List ℕ → Option ℕ
mvhd_duration_of p = if is_version 1 p then field 8 24 p else field 4 16 p

-- mehd, movie extends header (8.8.2): fragment_duration
abbrev pub mehd_duration_of : List ℕ → Option ℕ
mehd_duration_of p = if is_version 1 p then field 8 4 p else field 4 4 p

-- trex, track extends (8.8.3): track_ID, default_sample_description_index, default_sample_duration,
-- default_sample_size and default_sample_flags
abbrev pub trex_track_of : List ℕ → Option ℕ
trex_track_of p = field 4 4 p

abbrev pub trex_description_of : List ℕ → Option ℕ
trex_description_of p = field 4 8 p

abbrev pub trex_duration_of : List ℕ → Option ℕ
trex_duration_of p = field 4 12 p

abbrev pub trex_size_of : List ℕ → Option ℕ
trex_size_of p = field 4 16 p

abbrev pub trex_flags_of : List ℕ → Option ℕ
trex_flags_of p = field 4 20 p

-- tkhd, track header (8.3.2): creation_time and modification_time, then track_ID
abbrev pub tkhd_track_of : List ℕ → Option ℕ
tkhd_track_of p = if is_version 1 p then field 4 20 p else field 4 12 p

-- mdhd, media header (8.4.2): creation_time and modification_time, then timescale
abbrev pub mdhd_scale_of : List ℕ → Option ℕ
mdhd_scale_of p = if is_version 1 p then field 4 20 p else field 4 12 p

-- hdlr, handler reference (8.4.3): pre_defined, then handler_type, four characters
abbrev pub hdlr_handler_of : List ℕ → Option (List ℕ)
hdlr_handler_of p = if nat_lt (length p) 12 then None else Some (four_at 8 p)

-- entry_count of stsd (8.5.2), stts (8.6.1.2), stsc (8.7.4), stco and co64 (8.7.5) and elst (8.6.6)
abbrev pub entry_count_of : List ℕ → Option ℕ
entry_count_of p = field 4 4 p

-- an entry of elst, edit list (8.6.6): segment_duration, media_time, media_rate_integer and
-- media_rate_fraction; 20 bytes in version 1 and 12 before
abbrev pub long_edit_of : ℕ → List ℕ → Option EditEntry
long_edit_of at p = do
  duration ← field 8 at p
  media_time ← signed_field 8 (at + 8) p
  rate ← signed_field 2 (at + 16) p
  fraction ← signed_field 2 (at + 18) p
  Some (record { duration = duration; media_time = media_time; rate = rate; fraction = fraction })

abbrev pub short_edit_of : ℕ → List ℕ → Option EditEntry
short_edit_of at p = do
  duration ← field 4 at p
  media_time ← signed_field 4 (at + 4) p
  rate ← signed_field 2 (at + 8) p
  fraction ← signed_field 2 (at + 10) p
  Some (record { duration = duration; media_time = media_time; rate = rate; fraction = fraction })

-- the entries stand one after the other behind their count
unfoldable pub elst_entry_of : List ℕ → ℕ → Option EditEntry
elst_entry_of p i =
    if is_version 1 p then long_edit_of (8 + i * 20) p else short_edit_of (8 + i * 12) p
