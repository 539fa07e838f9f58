use Rattle.std.proofs.lemmas.Result.{IfOk-weaker}
use Rattle.buffer_state.specs.State.{surroundings}
use Rattle.buffer_state.specs.Replies.{reply_of}
use Rattle.source_buffers.proofs.SlotCalls.{nothing_in_all, turn_in_all}
use Rattle.source_buffers.proofs.VecAccess.{read_some, read_none}
use Rattle.source_buffers.proofs.buffers.SourceBuffers.turn.Goals as goal

pub returns-clause-done : goal.returns-clause-done
returns-clause-done g c =
    let slots = c.self.inside.slots.items in
    let there = read_some (λ x. x.now) c.get_mut.result c.in-Some.slot slots c.args.k c.get_mut.ensures.item.0 c.get_mut.ensures.item.1 c.in-Some.is in
    rw (← c.self.view_is) (IfOk-weaker c.turn_slot.result _ _ (λ turned done. turn_in_all slots c.args.k c.in-Some.slot.now c.turn_slot.new.slot (reply_of c.args.around.now.duration c.turn_slot.new.reply turned) (surroundings c.args.around.now) there done) c.turn_slot.ensures.done)

pub returns-in_default-clause-done : goal.returns-in_default-clause-done
returns-in_default-clause-done g c =
    let slots = c.self.inside.slots.items in
    rw (← c.self.view_is) (nothing_in_all slots c.args.k (surroundings c.args.around.now) (read_none (λ x. x.now) c.get_mut.result slots c.args.k c.get_mut.ensures.item.0 c.get_mut.ensures.item.1 c.in_default.is))
