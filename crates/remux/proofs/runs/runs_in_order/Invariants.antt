use Rattle.std.proofs.Common.{◌≡◌, map, take}
use Rattle.std.specs.List.{flat_map}
use Rattle.remux.specs.Runs.{run_value, track_runs}
use Rattle.remux.proofs.runs.runs_in_order.Given as goal

abbrev pub invariant-loop-track : goal.invariant-loop-track
invariant-loop-track l = map run_value l.runs.items ≡ flat_map track_runs (take l.track-index l.tracks)
