use Rattle.std.proofs.Common.{refl}
use Rattle.mse_calls.specs.declared.answers.Name.TheVariants.{NotFound}
use Rattle.buffer_state.specs.State.{surroundings}
use Rattle.source_buffers.proofs.SlotCalls.{removal_refused, removal_there}
use Rattle.source_buffers.proofs.buffers.remove_slot.Goals as goal

pub returns-in-Some : goal.returns-in-Some
returns-in-Some g c = rw c.in-Some.is (removal_there c.end_work-reply.result c.in-Some.buffer c.end_work-reply.new.self (surroundings c.args.around.now) c.end_work-reply.ensures)

pub returns-in-None : goal.returns-in-None
returns-in-None g c = rw c.in-None.is (removal_refused c.refused.result NotFound (surroundings c.args.around.now) refl c.refused.ensures.reply)
