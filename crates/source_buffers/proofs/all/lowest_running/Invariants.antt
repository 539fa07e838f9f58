use Rattle.std.proofs.Common.{◌≤◌}
use Rattle.std.specs.List.{position_or_len}
use Rattle.source_buffers.specs.State.{all_kept_running}
use Rattle.source_buffers.specs.All.{is_updating_slot}
use Rattle.source_buffers.proofs.all.lowest_running.Given as goal

abbrev pub invariant-loop-k : goal.invariant-loop-k
invariant-loop-k g l = l.k ≤ position_or_len is_updating_slot (all_kept_running l.slots.items)
