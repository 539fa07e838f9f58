use Rattle.std.proofs.Common.{◌≡◌, ◌≤◌, length}
use Rattle.std.specs.List.{AllByRecursion}
use Rattle.bmff_write.specs.declared.track_out.TrackOut.{TrackOut}
use Rattle.bmff_write.specs.Tracks.{IsTrackOut, AreNumbersDistinct}
use Rattle.stream_tests.proofs.tests.given.tracks_of_64.Given as goal

-- the tracks so far, whose numbers are not above their count
abbrev pub invariant-loop-i : goal.invariant-loop-i
invariant-loop-i l = record {
  count : length l.tracks.items ≡ l.i;
  each : AllByRecursion IsTrackOut l.tracks.items;
  below : AllByRecursion (λ (t : TrackOut). t.id ≤ l.i) l.tracks.items;
  distinct : AreNumbersDistinct l.tracks.items;
}
