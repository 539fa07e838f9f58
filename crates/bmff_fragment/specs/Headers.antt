-- The headers of a track fragment and of a track fragment run, each read as a whole.
use Rattle.std.specs.Prelude.{ℕ, List, Option, Some, bit_and, ◌==◌, not, unwrap_or}
use Rattle.mse_base.specs.declared.track.TrackInfo.{TrackInfo}
use Rattle.bmff_boxes.specs.Fields.{flags_of, ◌>>=◌}
use Rattle.bmff_boxes.specs.FragmentFields.{tfhd_track_of, tfhd_base_of, tfhd_description_of, tfhd_duration_of, tfhd_size_of, tfhd_flags_of, trun_count_of, trun_data_offset_of, trun_first_flags_of}
use Rattle.bmff_fragment.specs.declared.header.TrackFragmentHeader.{TrackFragmentHeader}
use Rattle.bmff_fragment.specs.declared.header.RunHeader.{RunHeader}
use Rattle.bmff_fragment.specs.declared.header.Defaults.{Defaults}

-- tfhd, track fragment header (ISO/IEC 14496-12, 8.8.7), with all fields that its flags announce; the flag
-- default-base-is-moof is 0x020000
unfoldable pub track_fragment_header_of : List ℕ → Option TrackFragmentHeader
track_fragment_header_of tfhd = do
  flags ← flags_of tfhd
  track ← tfhd_track_of tfhd
  base ← tfhd_base_of tfhd
  description ← tfhd_description_of tfhd
  duration ← tfhd_duration_of tfhd
  size ← tfhd_size_of tfhd
  sample_flags ← tfhd_flags_of tfhd
  Some
      (record {
        track_id = track;
        base_data_offset = base;
        base_is_moof = not (bit_and flags 0x20000 == 0);
        duration = duration;
        size = size;
        flags = sample_flags;
      })

-- what a sample has that its run does not tell: what the track fragment header tells, else what the track
-- extends box does (8.8.3)
abbrev pub defaults_of : TrackFragmentHeader → TrackInfo → Defaults
defaults_of header track = record {
  duration = unwrap_or header.duration track.default_duration;
  size = unwrap_or header.size track.default_size;
  flags = unwrap_or header.flags track.default_flags;
}

-- trun, track fragment run (8.8.8), up to its samples
unfoldable pub run_header_of : List ℕ → Option RunHeader
run_header_of trun = do
  count ← trun_count_of trun
  offset ← trun_data_offset_of trun
  first_flags ← trun_first_flags_of trun
  Some (record { count = count; data_offset = offset; first_flags = first_flags })
