use Rattle.std.proofs.Common.{◌≤◌, length, subst}
use Rattle.std.specs.List.{AllByRecursion}
use Rattle.std.proofs.lemmas.List.{take_all}
use Rattle.source_buffers.specs.State.{KeptBuffers, HasSlotReading}
use Rattle.source_buffers.proofs.KeptParts.{all_stand}
use Rattle.source_buffers.proofs.all.sound.Goals as goal

pub returns-clause-stands : goal.returns-clause-stands
returns-clause-stands g c =
    let ks = c.args.slots.now.items in
    let past : length ks ≤ c.loop-slot.slot-index = rw c.deref-slot-items.ensures.value at c.loop-slot-test.false in
    all_stand ks (subst (λ (xs : KeptBuffers). AllByRecursion HasSlotReading xs) (take_all c.loop-slot.slot-index ks past) c.loop-slot.invariant.stands)
