use Rattle.std.proofs.Common.{◌≡◌, ◌≤◌, map, take}
use Rattle.std.specs.List.{find}
use Rattle.mse_base.specs.Spans.{reaches}
use Rattle.mse_base.specs.Meets.{meet_of_all}
use Rattle.track_buffers.specs.Buffered.{with_end}
use Rattle.source_buffers.specs.State.{all_kept_media}
use Rattle.source_buffers.specs.Buffered.{active_ranges}
use Rattle.source_buffers.proofs.element.shared_span.Given as goal

abbrev pub invariant-loop-i : goal.invariant-loop-i
invariant-loop-i g l = record {
  held : l.span ≡ find (reaches l.t) (meet_of_all (take l.i (map (with_end l.end) (active_ranges l.ended l.active (all_kept_media l.slots.items)))));
  some : 1 ≤ l.i;
}
