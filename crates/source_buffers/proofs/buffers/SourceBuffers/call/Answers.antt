use Rattle.std.proofs.lemmas.Result.{IfOk-weaker}
use Rattle.buffer_state.specs.AllCalls.{call_at}
use Rattle.buffer_state.specs.State.{surroundings}
use Rattle.source_buffers.specs.Slots.{call_in_slot}
use Rattle.source_buffers.specs.All.{most_changes_of}
use Rattle.source_buffers.proofs.SlotCalls.{call_in_all, none_in_all}
use Rattle.source_buffers.proofs.VecAccess.{read_some, read_none}
use Rattle.source_buffers.proofs.buffers.SourceBuffers.call.Goals as goal

pub returns-clause-done : goal.returns-clause-done
returns-clause-done g c =
    let slots = c.self.inside.slots.items in
    let call = call_at c.args.around.now c.args.call.now in
    let a = surroundings c.args.around.now in
    let there = read_some (λ x. x.now) c.get_mut.result c.in-Some.slot slots c.args.k c.get_mut.ensures.item.0 c.get_mut.ensures.item.1 c.in-Some.is in
    rw (← c.self.view_is) (IfOk-weaker c.call_slot.result _ _ (λ reply done. call_in_all slots c.args.k c.in-Some.slot.now c.call_slot.new.slot reply call a there done) c.call_slot.ensures.done)

pub returns-in_default-clause-done : goal.returns-in_default-clause-done
returns-in_default-clause-done g c =
    let slots = c.self.inside.slots.items in
    let none = read_none (λ x. x.now) c.get_mut.result slots c.args.k c.get_mut.ensures.item.0 c.get_mut.ensures.item.1 c.in_default.is in
    let call = call_at c.args.around.now c.args.call.now in
    let a = surroundings c.args.around.now in
    rw (← c.self.view_is) (none_in_all slots c.args.k c.refused.result (call_in_slot call a) (most_changes_of c.args.k call slots) a.duration none c.refused.ensures.reply)
