use Rattle.buffer_state.specs.State.{surroundings}
use Rattle.mse_engine.specs.Standing.{kept_engine}
use Rattle.mse_engine.proofs.BufferCallSteps.{call_steps, call_steady}
use Rattle.mse_engine.proofs.Unmade.{unmade}
use Rattle.mse_engine.proofs.buffer_calls.call.Goals as goal

pub returns : goal.returns
returns g c = record { answered = λ st h. (call_steps c.args.k c.args.call.now c.around-around.result.position c.around-around.result.quota (surroundings c.around-around.result) c.in_ok-reply.reply c.answer_by.result c.args.source.now c.apply_reply.new.self c.args.element.now.state c.reserve.new.self.state c.tell_call.new.element.state c.settle.new.element.state c.args.buffers.now.buffers c.call.new.self.buffers c.reserve.ensures.state c.around-around.ensures.surroundings c.around-around.ensures.position c.around-around.ensures.quota c.in_ok-reply.ensures.done.answered c.apply_reply.ensures.source c.tell_call.ensures.state c.settle.ensures.element c.answer_by.ensures st h); steady = call_steady c.args.k c.in_ok-reply.reply c.around-around.result.duration c.args.source.now c.apply_reply.new.self c.args.buffers.now.buffers c.call.new.self.buffers c.args.element.now.state c.settle.new.element.state c.requires.steady c.around-around.ensures.duration c.in_ok-reply.ensures.done.within_duration c.call.ensures.len c.apply_reply.ensures.source c.settle.ensures.settled; err = tt }

pub returns-in_err-reserve : goal.returns-in_err-reserve
returns-in_err-reserve g c = unmade c.from_residual.result c.from_residual.ensures.0 (λ i. kept_engine c.args.source.now c.args.buffers.now.buffers (c.reserve.ensures.state i)) c.requires.steady

pub returns-in_err-reply : goal.returns-in_err-reply
returns-in_err-reply g c = unmade c.from_residual-in_err-reply.result c.from_residual-in_err-reply.ensures.0 (λ i. kept_engine c.args.source.now (c.in_err-reply.ensures.err i).buffers (c.reserve.ensures.state i)) c.requires.steady
