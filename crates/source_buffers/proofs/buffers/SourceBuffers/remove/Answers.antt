use Rattle.buffer_state.specs.State.{surroundings}
use Rattle.source_buffers.specs.Slots.{removal_in_slot}
use Rattle.source_buffers.proofs.SlotCalls.{done_in_all, none_in_all}
use Rattle.source_buffers.proofs.VecAccess.{read_some, read_none}
use Rattle.source_buffers.proofs.buffers.SourceBuffers.remove.Goals as goal

pub returns-clause-done : goal.returns-clause-done
returns-clause-done g c =
    let slots = c.self.inside.slots.items in
    let there = read_some (λ x. x.now) c.get_mut.result c.in-Some.slot slots c.args.k c.get_mut.ensures.item.0 c.get_mut.ensures.item.1 c.in-Some.is in
    rw (← c.self.view_is) (done_in_all slots c.args.k c.in-Some.slot.now c.remove_slot.new.slot c.remove_slot.result (removal_in_slot (surroundings c.args.around.now)) 0 c.args.around.now.duration there c.remove_slot.ensures)

pub returns-in_default-clause-done : goal.returns-in_default-clause-done
returns-in_default-clause-done g c =
    let slots = c.self.inside.slots.items in
    let none = read_none (λ x. x.now) c.get_mut.result slots c.args.k c.get_mut.ensures.item.0 c.get_mut.ensures.item.1 c.in_default.is in
    rw (← c.self.view_is) (none_in_all slots c.args.k c.refused.result (removal_in_slot (surroundings c.args.around.now)) 0 c.args.around.now.duration none c.refused.ensures.reply)
