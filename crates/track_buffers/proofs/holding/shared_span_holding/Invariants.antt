use Rattle.std.proofs.Common.{◌≡◌, ◌≤◌, map, take}
use Rattle.std.specs.List.{find}
use Rattle.mse_base.specs.Spans.{reaches}
use Rattle.mse_base.specs.Meets.{meet_of_all}
use Rattle.track_buffers.specs.Buffered.{with_end, ranges_in}
use Rattle.track_buffers.proofs.holding.shared_span_holding.Given as goal

abbrev pub invariant-loop-i : goal.invariant-loop-i
invariant-loop-i g l = record {
  held : l.span ≡ find (reaches l.t) (meet_of_all (take l.i (map (with_end l.end) (ranges_in g.S.FrameStore.frames g.S.FrameStore.gap l.tracks.items))));
  some : 1 ≤ l.i;
}
