use Rattle.std.proofs.Common.{◌≡◌, ◌≤◌, map, take}
use Rattle.std.specs.List.{filter}
use Rattle.mse_base.specs.Spans.{last_of, has_start_before}
use Rattle.mse_base.specs.Meets.{narrowed_of_all}
use Rattle.track_buffers.specs.Buffered.{ranges_in}
use Rattle.track_buffers.proofs.bounds.narrowed_before.Given as goal

abbrev pub invariant-loop-i : goal.invariant-loop-i
invariant-loop-i g l = record {
  held : l.span ≡ narrowed_of_all (map (λ r. last_of (filter (has_start_before l.t) r)) (take l.i (ranges_in g.S.FrameStore.frames g.S.FrameStore.gap l.tracks.items)));
  some : 1 ≤ l.i;
}
