use Rattle.std.proofs.Common.{◌≡◌, ◌∙◌, [], ◌∷◌, ◌++◌, length, sym, ap, subst, arith}
use Rattle.std.specs.Prelude.{Some}
use Rattle.mse_calls.specs.declared.events.Event.{Event}
use Rattle.source_state.specs.Calls.{after_add_buffer}
use Rattle.source_buffers.specs.State.{BufferStates, KeptBuffers, AreSlotsStanding, new_buffer}
use Rattle.media_element.specs.Queueing.{with_events}
use Rattle.mse_engine.specs.State.{MediaSource}
use Rattle.mse_engine.specs.Standing.{KeptEngine, Stands, IsSteady, kept_engine}
use Rattle.mse_engine.proofs.BufferList.{add_few, add_unchanged, add_refused, add_step, add_steady}
use Rattle.mse_engine.proofs.Unmade.{unmade}
use Rattle.mse_engine.proofs.Inside.{source_with, new_state, new_answer}
use Rattle.mse_engine.proofs.source_calls.add.Goals as goal

pub add_reserved-requires-clause-few : goal.add_reserved-requires-clause-few
add_reserved-requires-clause-few g c =
    let few = add_few c.source.inside.state c.in-Number.field-0 (sym c.in-Number.is ∙ c.in_ok-name.ensures.answer) in
    let made = c.requires.steady.made ∙ sym (ap (λ (s : MediaSource). s.state.made) c.source.view_is) in
    let same = ap length c.reserve-2.ensures.buffers in
    omega arith

pub returns-in-Refused : goal.returns-in-Refused
returns-in-Refused g c = record { answered = λ st h. (add_refused c.args.container c.args.source.now (source_with c.add_buffer.new.self c.source.inside.fault c.source.inside.quota c.source.inside.gap) c.reserve-2.new.self.buffers c.args.element.now.state c.reserve.new.self.state c.in_ok-name.field-0 c.reserve.ensures.state (new_answer c.source.inside.state c.source.inside.fault c.source.inside.quota c.source.inside.gap c.args.source.now c.source.view_is (λ s. (after_add_buffer s).answer) c.in_ok-name.field-0 c.in_ok-name.ensures.answer) (new_state c.source.inside.state c.source.inside.fault c.source.inside.quota c.source.inside.gap c.args.source.now c.source.view_is (λ s. (after_add_buffer s).state) c.add_buffer.new.self c.in_ok-name.ensures.state) c.in-Refused.name st c.in-Refused.is (subst (λ (x : KeptBuffers). IsSteady (kept_engine c.args.source.now x c.args.element.now.state)) (sym c.reserve-2.ensures.buffers) c.requires.steady).settled (subst (λ (x : KeptBuffers). Stands (kept_engine c.args.source.now x c.args.element.now.state) st) (sym c.reserve-2.ensures.buffers) h)); steady = subst (λ (x : KeptEngine). IsSteady x) (sym (add_unchanged c.args.container c.args.source.now (source_with c.add_buffer.new.self c.source.inside.fault c.source.inside.quota c.source.inside.gap) c.reserve-2.new.self.buffers c.args.element.now.state c.reserve.new.self.state c.in_ok-name.field-0 c.reserve.ensures.state (new_answer c.source.inside.state c.source.inside.fault c.source.inside.quota c.source.inside.gap c.args.source.now c.source.view_is (λ s. (after_add_buffer s).answer) c.in_ok-name.field-0 c.in_ok-name.ensures.answer) (new_state c.source.inside.state c.source.inside.fault c.source.inside.quota c.source.inside.gap c.args.source.now c.source.view_is (λ s. (after_add_buffer s).state) c.add_buffer.new.self c.in_ok-name.ensures.state) c.in-Refused.name c.in-Refused.is)) (subst (λ (x : KeptBuffers). IsSteady (kept_engine c.args.source.now x c.args.element.now.state)) (sym c.reserve-2.ensures.buffers) c.requires.steady); err = tt }

pub returns-in-Number : goal.returns-in-Number
returns-in-Number g c = record { answered = λ st h. (add_step c.args.container c.args.source.now (source_with c.add_buffer.new.self c.source.inside.fault c.source.inside.quota c.source.inside.gap) c.reserve-2.new.self.buffers c.args.element.now.state c.reserve.new.self.state c.in_ok-name.field-0 c.reserve.ensures.state (new_answer c.source.inside.state c.source.inside.fault c.source.inside.quota c.source.inside.gap c.args.source.now c.source.view_is (λ s. (after_add_buffer s).answer) c.in_ok-name.field-0 c.in_ok-name.ensures.answer) (new_state c.source.inside.state c.source.inside.fault c.source.inside.quota c.source.inside.gap c.args.source.now c.source.view_is (λ s. (after_add_buffer s).state) c.add_buffer.new.self c.in_ok-name.ensures.state) c.in-Number.field-0 c.add_reserved.new.self.buffers c.tell.new.self.state c.settle.new.element.state st c.in-Number.is (subst (λ (s : MediaSource). (bs : BufferStates) → AreSlotsStanding c.reserve-2.new.self.buffers bs → AreSlotsStanding c.add_reserved.new.self.buffers (bs ++ Some (new_buffer s.gap c.args.container) ∷ [])) c.source.view_is c.add_reserved.ensures.stand) (c.tell.ensures.state ∙ ap (λ (x : Event). with_events (x ∷ []) c.reserve.new.self.state) c.event.ensures) c.settle.ensures.element (subst (λ (x : KeptBuffers). Stands (kept_engine c.args.source.now x c.args.element.now.state) st) (sym c.reserve-2.ensures.buffers) h)); steady = add_steady c.args.container c.args.source.now (source_with c.add_buffer.new.self c.source.inside.fault c.source.inside.quota c.source.inside.gap) c.reserve-2.new.self.buffers c.args.element.now.state c.reserve.new.self.state c.in_ok-name.field-0 c.reserve.ensures.state (new_answer c.source.inside.state c.source.inside.fault c.source.inside.quota c.source.inside.gap c.args.source.now c.source.view_is (λ s. (after_add_buffer s).answer) c.in_ok-name.field-0 c.in_ok-name.ensures.answer) (new_state c.source.inside.state c.source.inside.fault c.source.inside.quota c.source.inside.gap c.args.source.now c.source.view_is (λ s. (after_add_buffer s).state) c.add_buffer.new.self c.in_ok-name.ensures.state) c.in-Number.field-0 c.add_reserved.new.self.buffers c.settle.new.element.state c.in-Number.is c.add_reserved.ensures.len c.add_reserved.ensures.within_duration (subst (λ (x : KeptBuffers). IsSteady (kept_engine c.args.source.now x c.args.element.now.state)) (sym c.reserve-2.ensures.buffers) c.requires.steady) c.settle.ensures.settled; err = tt }

pub returns-in_err-reserve : goal.returns-in_err-reserve
returns-in_err-reserve g c = unmade c.from_residual.result c.from_residual.ensures.0 (λ i. kept_engine c.args.source.now c.args.buffers.now.buffers (c.reserve.ensures.state i)) c.requires.steady

pub returns-in_err-reserve-2 : goal.returns-in_err-reserve-2
returns-in_err-reserve-2 g c = unmade c.from_residual-in_err-reserve-2.result c.from_residual-in_err-reserve-2.ensures.0 (λ i. kept_engine c.args.source.now (c.reserve-2.ensures.buffers i) (c.reserve.ensures.state i)) c.requires.steady

pub returns-in_err-name : goal.returns-in_err-name
returns-in_err-name g c =
    let as_before : source_with c.add_buffer.new.self c.source.inside.fault c.source.inside.quota c.source.inside.gap ≡ c.args.source.now = new_state c.source.inside.state c.source.inside.fault c.source.inside.quota c.source.inside.gap c.args.source.now c.source.view_is (λ s. s) c.add_buffer.new.self c.in_err-name.ensures.err in
    unmade c.from_residual-in_err-name.result c.from_residual-in_err-name.ensures.0 (λ i. kept_engine (as_before i) (c.reserve-2.ensures.buffers i) (c.reserve.ensures.state i)) c.requires.steady
