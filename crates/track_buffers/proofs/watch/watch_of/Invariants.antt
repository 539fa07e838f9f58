use Rattle.std.proofs.Common.{◌≡◌, ◌≤◌, map, take}
use Rattle.std.specs.List.{find}
use Rattle.mse_base.specs.Spans.{reaches}
use Rattle.mse_base.specs.Meets.{meet_of_all}
use Rattle.track_buffers.specs.Buffered.{ranges_in}
use Rattle.track_buffers.specs.Watching.{HasLeast}
use Rattle.track_buffers.proofs.watch.watch_of.Given as goal

abbrev pub invariant-loop-i : goal.invariant-loop-i
invariant-loop-i g l = record {
  shared : l.span ≡ find (reaches l.t) (meet_of_all (take l.i (ranges_in g.S.FrameStore.frames g.S.FrameStore.gap l.tracks.items)));
  least : HasLeast l.span l.least (take l.i (map (find (reaches l.t)) (ranges_in g.S.FrameStore.frames g.S.FrameStore.gap l.tracks.items)));
  some : 1 ≤ l.i;
}
