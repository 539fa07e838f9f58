use Rattle.std.proofs.Common.{◌≡◌, ◌≤◌, map, take}
use Rattle.std.specs.List.{find}
use Rattle.mse_base.specs.Spans.{has_end_after}
use Rattle.mse_base.specs.Meets.{narrowed_of_all}
use Rattle.track_buffers.specs.Buffered.{with_end, ranges_in}
use Rattle.track_buffers.proofs.bounds.narrowed_after.Given as goal

abbrev pub invariant-loop-i : goal.invariant-loop-i
invariant-loop-i g l = record {
  held : l.span ≡ narrowed_of_all (map (find (has_end_after l.t)) (take l.i (map (with_end l.end) (ranges_in g.S.FrameStore.frames g.S.FrameStore.gap l.tracks.items))));
  some : 1 ≤ l.i;
}
