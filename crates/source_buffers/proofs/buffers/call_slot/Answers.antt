use Rattle.std.proofs.lemmas.Result.{IfOk-weaker}
use Rattle.buffer_state.specs.AllCalls.{call_at}
use Rattle.buffer_state.specs.State.{surroundings}
use Rattle.source_buffers.proofs.SlotCalls.{call_refused, done_there}
use Rattle.source_buffers.proofs.buffers.call_slot.Goals as goal

pub returns-in-Some-clause-done : goal.returns-in-Some-clause-done
returns-in-Some-clause-done g c = rw c.in-Some.is (IfOk-weaker c.call.result _ _ (λ reply done. done_there reply c.in-Some.buffer c.call.new.self (call_at c.args.around.now c.args.call.now) (surroundings c.args.around.now) done) c.call.ensures.done)

pub returns-in-None-clause-done : goal.returns-in-None-clause-done
returns-in-None-clause-done g c = rw c.in-None.is (call_refused c.refused.result c.removed_name.result (call_at c.args.around.now c.args.call.now) (surroundings c.args.around.now) (c.removed_name.ensures c.args.around.now) c.refused.ensures.reply)
