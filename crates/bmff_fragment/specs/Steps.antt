-- A device of the proof, which no contract of a public call cites: the plan again, one run and one track
-- fragment after the other, with the sums so far in place of the lists.
use Rattle.std.specs.Prelude.{ℕ, ◌+◌, List, [], ◌∷◌, ◌++◌, length, Result, Ok}
use lib.Chars.{codes}
use Rattle.mse_base.specs.declared.track.TrackInfo.{TrackInfo}
use Rattle.bmff_boxes.specs.Rows.{row_of, all_of}
use Rattle.bmff_fragment.specs.declared.fault.MoofFault.{MoofFault}
use Rattle.bmff_fragment.specs.declared.fault.MoofFault.TheVariants.{Size}
use Rattle.bmff_fragment.specs.declared.track_fragment.TrackFragment.{TrackFragment}
use Rattle.bmff_fragment.specs.declared.track_fragment.MoofProgress.{MoofProgress}
use Rattle.bmff_fragment.specs.declared.track_fragment.RunProgress.{RunProgress}
use Rattle.bmff_fragment.specs.declared.slot.Slot.{Slot}
use Rattle.bmff_fragment.specs.Times.{Run, duration_of, run_end, slots_of_run}
use Rattle.bmff_boxes.specs.Reading.{◌>>=◌, need}
use Rattle.bmff_fragment.specs.Plans.{track_fragment_of, run_of, media_slots}

-- behind a run
abbrev pub progress_after_run : RunProgress → Run → RunProgress
progress_after_run at run = record {
  samples = at.samples + length run.samples;
  data_end = run_end run;
  decode_time = at.decode_time + duration_of run.samples;
}

unfoldable pub run_step : TrackFragment → RunProgress → List Slot → List ℕ
    → Result (RunProgress × List Slot) MoofFault
run_step fragment at slots trun = do
  run ← run_of fragment at.samples at.data_end trun
  Ok (
    progress_after_run at run,
    slots
        ++ media_slots fragment.track (slots_of_run fragment.track at.decode_time run),
  )

unfoldable pub runs_steps : TrackFragment → RunProgress → List Slot → List (List ℕ)
    → Result (RunProgress × List Slot) MoofFault
runs_steps fragment at slots [] = Ok (at, slots)
runs_steps fragment at slots (trun ∷ truns) = do
  next ← run_step fragment at slots trun
  runs_steps fragment next.0 next.1 truns

-- before the first run of a track fragment
abbrev pub first_run : TrackFragment → ℕ → RunProgress
first_run fragment samples = record {
  samples = samples;
  data_end = fragment.base;
  decode_time = fragment.decode_time;
}

abbrev pub progress_after_runs : RunProgress → MoofProgress
progress_after_runs at = record { samples = at.samples; data_end = at.data_end }

-- the runs of a track fragment
abbrev pub runs_part : TrackFragment → ℕ → List Slot → List (List ℕ)
    → Result (MoofProgress × List Slot) MoofFault
runs_part fragment samples slots truns = do
  last ← runs_steps fragment (first_run fragment samples) slots truns
  Ok (progress_after_runs last.0, last.1)

unfoldable pub traf_step : List TrackInfo → MoofProgress → List Slot → List ℕ
    → Result (MoofProgress × List Slot) MoofFault
traf_step tracks at slots traf = do
  row ← need Size (row_of traf)
  fragment ← track_fragment_of tracks at.data_end row
  runs_part fragment at.samples slots (all_of (codes "trun") row)

unfoldable pub trafs_steps : List TrackInfo → MoofProgress → List Slot → List (List ℕ)
    → Result (List Slot) MoofFault
trafs_steps tracks at slots [] = Ok slots
trafs_steps tracks at slots (traf ∷ trafs) = do
  next ← traf_step tracks at slots traf
  trafs_steps tracks next.0 next.1 trafs
