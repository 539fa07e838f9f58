use Rattle.std.proofs.Common.{◌≡◌, drop}
use Rattle.source_buffers.specs.State.{all_kept_media}
use Rattle.source_buffers.specs.All.{are_initialized}
use Rattle.source_buffers.proofs.all.are_initialized.Given as goal

abbrev pub invariant-loop-slot : goal.invariant-loop-slot
invariant-loop-slot g l = are_initialized (all_kept_media (drop l.slot-index l.slots.items)) ≡ are_initialized (all_kept_media l.slots.items)
