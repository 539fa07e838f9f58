use Rattle.std.proofs.Common.{sym, subst}
use Rattle.std.specs.Prelude.{Some}
use Rattle.mse_base.specs.declared.ticks.Moment.{Moment}
use Rattle.buffer_state.specs.Replies.{quiet_reply}
use Rattle.buffer_state.specs.State.{surroundings}
use Rattle.source_buffers.specs.All.{AreStillWithin}
use Rattle.source_buffers.specs.Slots.{IsBuffersTurn, buffers_turn}
use Rattle.mse_engine.proofs.ElementEffects.{steady_still}
use Rattle.mse_engine.proofs.MetadataRanges.{brought}
use Rattle.mse_engine.proofs.BufferCallSteps.{call_steady}
use Rattle.mse_engine.proofs.Quiet.{quiet_element, quiet_source}
use Rattle.mse_engine.proofs.WorkSteps.{work_did}
use Rattle.mse_engine.proofs.steps.work_on.Goals as goal

pub apply_work_reply-requires-clause-ready_to_load : goal.apply_work_reply-requires-clause-ready_to_load
apply_work_reply-requires-clause-ready_to_load g c loaded =
    brought c.args.k c.turn.new.reply c.args.buffers.now.buffers c.turn.new.self.buffers c.args.source.now c.reserve.new.self.state c.find_bounds.new.bounds c.drop_stale_bounds.new.bounds (rw c.in-Did.is at c.in_ok-turn.ensures.done.ranges) c.drop_stale_bounds.ensures c.in_ok-find_bounds.ensures loaded

pub returns-in-Did-clause-worked : goal.returns-in-Did-clause-worked
returns-in-Did-clause-worked g c st h =
    work_did c.args.k (surroundings c.around-around.result) c.turn.new.reply c.args.source.now c.apply_work_reply.new.source c.args.element.now.state c.reserve.new.self.state c.apply_work_reply.new.element.state c.args.buffers.now.buffers c.turn.new.self.buffers st c.reserve.ensures.state c.around-around.ensures.surroundings (rw c.in-Did.is at (c.in_ok-turn.ensures.done.turned_as st.buffers h.buffers)) c.apply_work_reply.ensures.source c.apply_work_reply.ensures.end.element h

pub returns-in-Did-clause-steady : goal.returns-in-Did-clause-steady
returns-in-Did-clause-steady g c =
    call_steady c.args.k c.turn.new.reply c.around-around.result.duration c.args.source.now c.apply_work_reply.new.source c.args.buffers.now.buffers c.turn.new.self.buffers c.args.element.now.state c.apply_work_reply.new.element.state c.requires.steady c.around-around.ensures.duration (rw c.in-Did.is at c.in_ok-turn.ensures.done.within_duration) c.turn.ensures.len c.apply_work_reply.ensures.source c.apply_work_reply.ensures.end.settled

-- the duration that the buffer was told is that of the source
pub returns-in-Quiet-clause-worked : goal.returns-in-Quiet-clause-worked
returns-in-Quiet-clause-worked g c st h =
    let source = c.args.source.now in
    let turned = subst (λ (d : Moment). IsBuffersTurn (Some (quiet_reply d)) c.turn.new.self.buffers (buffers_turn c.args.k (surroundings c.around-around.result) st.buffers)) c.around-around.ensures.duration (rw c.in-Quiet.is at (c.in_ok-turn.ensures.done.turned_as st.buffers h.buffers)) in
    work_did c.args.k (surroundings c.around-around.result) (quiet_reply source.state.duration) source source c.args.element.now.state c.reserve.new.self.state c.settle.new.element.state c.args.buffers.now.buffers c.turn.new.self.buffers st c.reserve.ensures.state c.around-around.ensures.surroundings turned (sym (quiet_source c.args.k source)) (quiet_element c.args.k source c.turn.new.self.buffers c.reserve.new.self.state c.settle.new.element.state c.settle.ensures.element) h

pub returns-in-Quiet-clause-steady : goal.returns-in-Quiet-clause-steady
returns-in-Quiet-clause-steady g c =
    let source = c.args.source.now in
    let d : Moment = c.around-around.result.duration in
    let stays = subst (λ (x : Moment). AreStillWithin d c.args.buffers.now.buffers (quiet_reply x) c.turn.new.self.buffers) c.around-around.ensures.duration (rw c.in-Quiet.is at c.in_ok-turn.ensures.done.within_duration) in
    call_steady c.args.k (quiet_reply source.state.duration) d source source c.args.buffers.now.buffers c.turn.new.self.buffers c.args.element.now.state c.settle.new.element.state c.requires.steady c.around-around.ensures.duration stays c.turn.ensures.len (sym (quiet_source c.args.k source)) c.settle.ensures.settled

pub returns-in_err-reserve-clause-steady : goal.returns-in_err-reserve-clause-steady
returns-in_err-reserve-clause-steady g c = steady_still c.args.source.now c.args.buffers.now.buffers c.args.element.now.state c.reserve.new.self.state c.reserve.ensures.state c.requires.steady
