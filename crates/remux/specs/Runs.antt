-- The samples of a classic file in runs, each of which becomes a movie fragment (ISO/IEC 14496-12, 8.8).
use Rattle.std.specs.Prelude.{◌≡◌, ℕ, ◌+◌, ◌%◌, ◌^◌, ◌≤◌, nat_le, nat_lt, ◌==◌, ◌||◌, ℤ, pos, ◌-ℤ◌, int_lt, Bool, false, if◌then◌else◌, List, [], ◌∷◌, ◌++◌, length, map, sum_by, take}
use Rattle.std.specs.List.{AllByRecursion, flat_map}
use Rattle.mse_base.specs.Time.{media_ticks}
use Rattle.mse_base.specs.declared.track.Kind.{Kind}
use Rattle.mse_base.specs.declared.track.Kind.TheVariants.{Video, Audio, Other}
use Rattle.sample_tables.specs.declared.sample.Sample.{Sample}
use Rattle.sample_tables.specs.Facts.{IsSampleIn}
use Rattle.remux.specs.declared.runs.RunOfTrack.{RunOfTrack}
use Rattle.sample_tables.specs.declared.media_track.MediaTrack.{MediaTrack}

-- whether a run begins with a sample, which has this position in its track, the first being 0
abbrev pub is_run_start : Kind → ℕ → Sample → Bool
is_run_start Video position sample = sample.sync
is_run_start Audio position sample = position % 64 == 0
is_run_start Other position sample = false

-- how many bytes samples have
abbrev pub bytes_of : List Sample → ℕ
bytes_of samples = sum_by (λ s. s.size) samples

-- whether a run has no room for one more sample
abbrev pub is_run_full : List Sample → Sample → Bool
is_run_full run sample =
    nat_le (2 ^ 16) (length run) || nat_lt (2 ^ 26) (bytes_of run + sample.size)

-- whether a run ends before a sample
abbrev pub is_over_before : Kind → ℕ → List Sample → Sample → Bool
is_over_before kind position run sample =
    is_run_start kind position sample || is_run_full run sample

-- the runs of samples from a position on, where the samples of `run` stand before them in the first run
abbrev pub runs_from : Kind → ℕ → List Sample → List Sample → List (List Sample)
runs_from kind position run [] = run ∷ []
runs_from kind position run (s ∷ ss) =
    if is_over_before kind position run s
    then run ∷ runs_from kind (position + 1) (s ∷ []) ss
    else runs_from kind (position + 1) (run ++ s ∷ []) ss

-- the samples of a track in runs
abbrev pub runs_of : Kind → List Sample → List (List Sample)
runs_of kind [] = []
runs_of kind (s ∷ ss) = runs_from kind 1 (s ∷ []) ss

-- ---- what a list of runs has

-- the samples of runs, one run behind the other
abbrev pub samples_in : List (List Sample) → List Sample
samples_in [] = []
samples_in (run ∷ runs) = run ++ samples_in runs

-- the position of the first sample of a run in its track
abbrev pub first_position : List (List Sample) → ℕ → ℕ
first_position runs i = length (samples_in (take i runs))

-- Behind the first k samples of a run stands this one in the track: the run ends there exactly where a new run is to
-- begin with it, or there is no room for it.
abbrev pub IsEndOfRun : Kind → ℕ → List Sample → ℕ → Sample → Type 0
IsEndOfRun kind first run k sample =
    is_over_before kind (first + k) (take k run) sample ≡ (k == length run)

-- a run of samples of a file of this length, which has room for them
pub record IsShortRun (len : ℕ) (run : List Sample) : Type 0 where
  pub samples : AllByRecursion (IsSampleIn len) run
  pub few : length run ≤ 2 ^ 16
  pub short : bytes_of run ≤ 2 ^ 26

-- a run with the number of its track, the decode time of its first sample in the track's media time, and that time
-- in ticks of the presentation
pub record SampleRun : Type 0 where
  pub id : ℕ
  pub decode : ℕ
  pub time : ℤ
  pub samples : List Sample

-- the same of what the code keeps
abbrev pub run_value : RunOfTrack → SampleRun
run_value run = record {
  id = run.id;
  decode = run.decode;
  time = run.time;
  samples = run.samples.now;
}

-- the same of a run in code
abbrev pub IsShortIn : ℕ → RunOfTrack → Type 0
IsShortIn len run = IsShortRun len run.samples.now

abbrev pub first_decode : List Sample → ℕ
first_decode [] = 0
first_decode (s ∷ ss) = s.decode

-- the media of a track begin later by its lag, and are shifted by its edit list
abbrev pub sample_run : MediaTrack → List Sample → SampleRun
sample_run track samples = record {
  id = track.info.id;
  decode = first_decode samples + track.lag;
  time =
      media_ticks (pos (first_decode samples + track.lag) -ℤ track.info.media_shift)
      track.info.scale;
  samples = samples;
}

abbrev pub track_runs : MediaTrack → List SampleRun
track_runs track = map (sample_run track) (runs_of track.info.kind track.samples)

-- a run put before the first that is not earlier
abbrev pub run_put : SampleRun → List SampleRun → List SampleRun
run_put run [] = run ∷ []
run_put run (next ∷ runs) =
    if int_lt next.time run.time then next ∷ run_put run runs else run ∷ next ∷ runs

-- runs in order of time; those of one time stay in their order
abbrev pub in_order : List SampleRun → List SampleRun
in_order [] = []
in_order (run ∷ runs) = run_put run (in_order runs)

-- the runs of all tracks in order of time, at a tie in order of tracks
unfoldable pub runs_in_order : List MediaTrack → List SampleRun
runs_in_order tracks = in_order (flat_map track_runs tracks)
