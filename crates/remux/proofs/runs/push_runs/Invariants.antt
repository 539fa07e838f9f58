use Rattle.std.proofs.Common.{◌≡◌, ◌++◌, ◌≤◌, ◌<◌, ◌^◌, map, drop}
use Rattle.std.specs.List.{slice_range}
use Rattle.remux.specs.Runs.{bytes_of, runs_from, run_value, sample_run, track_runs}
use Rattle.remux.proofs.runs.push_runs.Given as goal

abbrev pub invariant-loop-i : goal.invariant-loop-i
invariant-loop-i l = record {
  same : map run_value l.runs.items ++ map (sample_run l.track) (runs_from l.track.info.kind l.i (slice_range l.track.samples l.start l.i) (drop l.i l.track.samples)) ≡ map run_value l.fn.runs.items ++ track_runs l.track;
  before : l.start < l.i;
  bytes : l.bytes ≡ bytes_of (slice_range l.track.samples l.start l.i);
  few : l.bytes ≤ 2 ^ 26;
}
