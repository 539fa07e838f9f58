use Rattle.std.proofs.Common.{[], sym, subst}
use Rattle.mse_base.specs.declared.ticks.Moment.{Moment}
use Rattle.mse_base.specs.declared.ticks.Moment.TheVariants.{At}
use Rattle.mse_calls.specs.declared.answers.Answer.{Answer}
use Rattle.mse_calls.specs.declared.answers.Answer.TheVariants.{Done, Refused}
use Rattle.mse_calls.specs.declared.answers.Name.TheVariants.{TypeError}
use Rattle.mse_calls.specs.declared.calls.Call.TheVariants as call
use Rattle.source_state.specs.Calls.{after_set_live}
use Rattle.mse_engine.specs.State.{core_of}
use Rattle.mse_engine.specs.CoreEffects.{CoreEffect}
use Rattle.mse_engine.specs.SourceCalls.{from_source}
use Rattle.mse_engine.specs.Calls.{after_call, after_call_by, no_element_effect}
use Rattle.mse_engine.specs.Standing.{IsStep, kept_engine}
use Rattle.mse_engine.proofs.SourceSteps.{live_refused, set_live_plain, plain_steady, either_step}
use Rattle.mse_engine.proofs.BufferCallSteps.{refused_stays}
use Rattle.mse_engine.proofs.Unmade.{unmade}
use Rattle.mse_engine.proofs.Inside.{source_with, new_state, new_answer}
use Rattle.mse_engine.proofs.source_calls.set_live.Goals as goal

pub returns : goal.returns
returns g c = record {
  answered = λ st h.
      (let answer = new_answer c.source.inside.state c.source.inside.fault c.source.inside.quota c.source.inside.gap c.args.source.now c.source.view_is (λ s. ((after_set_live c.in-At.start c.in-At-end.end) s).answer) c.set_live-refusal.result c.set_live-refusal.ensures.answer in
      let here = either_step (after_set_live c.in-At.start c.in-At-end.end) c.args.source.now (source_with c.set_live-refusal.new.self c.source.inside.fault c.source.inside.quota c.source.inside.gap) c.args.buffers.now.buffers c.args.element.now.state c.reserve.new.self.state (set_live_plain c.in-At.start c.in-At-end.end c.args.source.now.state) (new_state c.source.inside.state c.source.inside.fault c.source.inside.quota c.source.inside.gap c.args.source.now c.source.view_is (λ s. ((after_set_live c.in-At.start c.in-At-end.end) s).state) c.set_live-refusal.new.self c.set_live-refusal.ensures.state) c.reserve.ensures.state c.set_live-refusal.result c.settle.new.element.state st answer c.settle.ensures.element h in
      let told = subst (λ (a : Answer). IsStep a (kept_engine (source_with c.set_live-refusal.new.self c.source.inside.fault c.source.inside.quota c.source.inside.gap) c.args.buffers.now.buffers c.settle.new.element.state) (after_call_by (from_source ((after_set_live c.in-At.start c.in-At-end.end) st.source.state) [] (core_of st)) (no_element_effect st.element) Done)) (sym c.answer_by.ensures) here in
      subst (λ (t : Moment). IsStep c.answer_by.result (kept_engine (source_with c.set_live-refusal.new.self c.source.inside.fault c.source.inside.quota c.source.inside.gap) c.args.buffers.now.buffers c.settle.new.element.state) (after_call [] (call.SetLiveSeekableRange t c.args.end) st)) (sym c.in-At.is) (subst (λ (t : Moment). IsStep c.answer_by.result (kept_engine (source_with c.set_live-refusal.new.self c.source.inside.fault c.source.inside.quota c.source.inside.gap) c.args.buffers.now.buffers c.settle.new.element.state) (after_call [] (call.SetLiveSeekableRange (At c.in-At.start) t) st)) (sym c.in-At-end.is) told));
  steady = plain_steady (after_set_live c.in-At.start c.in-At-end.end) c.args.source.now (source_with c.set_live-refusal.new.self c.source.inside.fault c.source.inside.quota c.source.inside.gap) c.args.buffers.now.buffers c.args.element.now.state c.reserve.new.self.state (set_live_plain c.in-At.start c.in-At-end.end c.args.source.now.state) (new_state c.source.inside.state c.source.inside.fault c.source.inside.quota c.source.inside.gap c.args.source.now c.source.view_is (λ s. ((after_set_live c.in-At.start c.in-At-end.end) s).state) c.set_live-refusal.new.self c.set_live-refusal.ensures.state) c.reserve.ensures.state c.settle.new.element.state c.requires.steady c.settle.ensures.settled;
  err = tt;
}

pub returns-in_err-reserve : goal.returns-in_err-reserve
returns-in_err-reserve g c = unmade c.from_residual.result c.from_residual.ensures.0 (λ i. kept_engine c.args.source.now c.args.buffers.now.buffers (c.reserve.ensures.state i)) c.requires.steady

pub returns-in_default : goal.returns-in_default
returns-in_default g c = record {
  answered = λ st h.
      (subst (λ (m : CoreEffect). IsStep (Refused TypeError) (kept_engine c.args.source.now c.args.buffers.now.buffers c.args.element.now.state) (after_call_by m (no_element_effect st.element) Done)) (sym (live_refused c.args.start c.args.end (core_of st) (λ a b s e. c.in_default.not-At a s))) (refused_stays TypeError Done (kept_engine c.args.source.now c.args.buffers.now.buffers c.args.element.now.state) st c.requires.steady.settled h));
  steady = c.requires.steady;
  err = tt;
}

pub returns-in_default-end : goal.returns-in_default-end
returns-in_default-end g c = record {
  answered = λ st h.
      (subst (λ (m : CoreEffect). IsStep (Refused TypeError) (kept_engine c.args.source.now c.args.buffers.now.buffers c.args.element.now.state) (after_call_by m (no_element_effect st.element) Done)) (sym (live_refused c.args.start c.args.end (core_of st) (λ a b s e. c.in_default-end.not-At b e))) (refused_stays TypeError Done (kept_engine c.args.source.now c.args.buffers.now.buffers c.args.element.now.state) st c.requires.steady.settled h));
  steady = c.requires.steady;
  err = tt;
}
