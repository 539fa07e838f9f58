use Rattle.std.proofs.Common.{take}
use Rattle.std.specs.List.{AllByRecursion}
use Rattle.source_buffers.specs.State.{HasSlotReading, all_kept_media}
use Rattle.source_buffers.specs.All.{AreSound}
use Rattle.source_buffers.proofs.all.sound.Given as goal

abbrev pub invariant-loop-slot : goal.invariant-loop-slot
invariant-loop-slot g l = record {
  sound : AreSound (all_kept_media (take l.slot-index l.slots.items));
  stands : AllByRecursion HasSlotReading (take l.slot-index l.slots.items);
}
