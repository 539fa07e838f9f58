-- What a movie fragment says of its samples, or the first fault in the order of reading (ISO/IEC 14496-12, 8.8).
use Rattle.std.specs.Prelude.{ℕ, ◌+◌, ◌^◌, nat_le, ◌==◌, ◌||◌, ℤ, pos, ◌+ℤ◌, int_le, if◌then◌else◌, List, [], ◌∷◌, ◌++◌, length, find, Option, Some, None, is_none, Result, Ok}
use lib.Chars.{codes}
use Rattle.mse_base.specs.declared.track.TrackInfo.{TrackInfo}
use Rattle.mse_base.specs.Presentation.{has_id}
use Rattle.mse_base.specs.Moments.{is_media}
use Rattle.bmff_boxes.specs.Children.{payload_of}
use Rattle.bmff_boxes.specs.Reading.{◌>>=◌, need, check}
use Rattle.bmff_boxes.specs.Rows.{BoxView, row_of, first_of, all_of}
use Rattle.bmff_boxes.specs.FragmentFields.{tfdt_time_of}
use Rattle.bmff_fragment.specs.declared.fault.MoofFault.{MoofFault}
use Rattle.bmff_fragment.specs.declared.fault.MoofFault.TheVariants.{Size, NoTraf, NoTfhd, NoTfdt, BaseOffset, UnknownTrack, TooManySamples, Place}
use Rattle.bmff_fragment.specs.declared.track_fragment.TrackFragment.{TrackFragment}
use Rattle.bmff_fragment.specs.declared.sample.FragmentSample.{FragmentSample}
use Rattle.bmff_fragment.specs.declared.slot.Slot.{Slot}
use Rattle.bmff_fragment.specs.Headers.{track_fragment_header_of, defaults_of, run_header_of}
use Rattle.bmff_fragment.specs.Samples.{run_samples_of}
use Rattle.bmff_fragment.specs.Times.{Run, run_end, slots_behind}

-- the track of a number
abbrev pub track_with_id : List TrackInfo → ℕ → Option TrackInfo
track_with_id tracks id = find (has_id id) tracks

-- traf, track fragment (8.8.6), before its runs: its track, its defaults, the place from which its data
-- offsets count and its first decode time. That place is the first byte of the moof box in the first track
-- fragment and where default-base-is-moof is set; else the data of the track fragment before end there,
-- at `end` (8.8.7).
unfoldable pub track_fragment_of : List TrackInfo → ℤ → List BoxView
    → Result TrackFragment MoofFault
track_fragment_of tracks end row = do
  tfhd ← need NoTfhd (first_of (codes "tfhd") row)
  header ← need Size (track_fragment_header_of tfhd)
  relative ← check BaseOffset (is_none header.base_data_offset)
  track ← need UnknownTrack (track_with_id tracks header.track_id)
  tfdt ← need NoTfdt (first_of (codes "tfdt") row)
  time ← need Size (tfdt_time_of tfdt)
  Ok
      (record {
        track = track;
        defaults = defaults_of header track;
        base = (if header.base_is_moof then pos 0 else end);
        decode_time = time;
      })

-- where the data of a run begin (8.8.8): at its data offset from the base, else where those of the run before
-- it end
abbrev pub run_start : ℤ → ℤ → Option ℤ → ℤ
run_start base end None = end
run_start base end (Some offset) = base +ℤ offset

-- a run, where `count` samples of the moof stand before it and `end` is the end of the run before it, or the
-- base. The data of its first sample begin first, so it is in place where they do not begin before the moof.
unfoldable pub run_of : TrackFragment → ℕ → ℤ → List ℕ → Result Run MoofFault
run_of fragment count end trun = do
  header ← need Size (run_header_of trun)
  few ← check TooManySamples (nat_le (count + header.count) (2 ^ 20))
  samples ← need Size (run_samples_of fragment.defaults header trun)
  inside ← check Place
      (header.count == 0 || int_le (pos 0) (run_start fragment.base end header.data_offset))
  Ok (record { start = run_start fragment.base end header.data_offset; samples = samples })

unfoldable pub runs_of : TrackFragment → ℕ → ℤ → List (List ℕ) → Result (List Run) MoofFault
runs_of fragment count end [] = Ok []
runs_of fragment count end (trun ∷ truns) = do
  run ← run_of fragment count end trun
  runs ← runs_of fragment (count + length run.samples) (run_end run) truns
  Ok (run ∷ runs)

-- the samples of runs
abbrev pub samples_in : List Run → List FragmentSample
samples_in [] = []
samples_in (run ∷ runs) = run.samples ++ samples_in runs

-- the end of a track fragment's data: that of its last run, or its base
abbrev pub data_end : ℤ → List Run → ℤ
data_end base [] = base
data_end base (run ∷ runs) = data_end (run_end run) runs

-- slots of a track, none where a buffer takes no frames of it
abbrev pub media_slots : TrackInfo → List Slot → List Slot
media_slots track slots = if is_media track.kind then slots else []

-- the slots of track fragments, where `count` samples stand before them and `end` is the end of the data
-- before them
unfoldable pub trafs_of : List TrackInfo → ℕ → ℤ → List (List ℕ) → Result (List Slot) MoofFault
trafs_of tracks count end [] = Ok []
trafs_of tracks count end (traf ∷ trafs) = do
  row ← need Size (row_of traf)
  fragment ← track_fragment_of tracks end row
  runs ← runs_of fragment count fragment.base (all_of (codes "trun") row)
  slots ← trafs_of tracks (count + length (samples_in runs)) (data_end fragment.base runs) trafs
  Ok
      (media_slots fragment.track (slots_behind fragment.track fragment.decode_time [] runs)
      ++ slots)

-- moof, movie fragment (8.8.4)
unfoldable pub plan_of : List TrackInfo → List ℕ → Result (List Slot) MoofFault
plan_of tracks moof = do
  payload ← need Size (payload_of moof)
  row ← need Size (row_of payload)
  first ← need NoTraf (first_of (codes "traf") row)
  trafs_of tracks 0 (pos 0) (all_of (codes "traf") row)
