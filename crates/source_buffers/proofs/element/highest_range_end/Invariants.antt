use Rattle.std.proofs.Common.{◌≡◌, take, true}
use Rattle.mse_base.specs.Moments.{greatest}
use Rattle.track_buffers.specs.Buffered.{last_ends}
use Rattle.source_buffers.specs.State.{all_kept_media}
use Rattle.source_buffers.specs.Buffered.{active_ranges}
use Rattle.source_buffers.proofs.element.highest_range_end.Given as goal

abbrev pub invariant-loop-i : goal.invariant-loop-i
invariant-loop-i g l = l.best ≡ greatest (last_ends (take l.i (active_ranges true l.active (all_kept_media l.slots.items))))
