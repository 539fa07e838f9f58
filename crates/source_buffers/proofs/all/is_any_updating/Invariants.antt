use Rattle.std.proofs.Common.{◌≡◌, drop}
use Rattle.std.specs.List.{list_any}
use Rattle.source_buffers.specs.State.{all_kept_running}
use Rattle.source_buffers.specs.All.{is_updating_slot}
use Rattle.source_buffers.proofs.all.is_any_updating.Given as goal

abbrev pub invariant-loop-slot : goal.invariant-loop-slot
invariant-loop-slot g l = list_any is_updating_slot (all_kept_running (drop l.slot-index l.slots.items)) ≡ list_any is_updating_slot (all_kept_running l.slots.items)
