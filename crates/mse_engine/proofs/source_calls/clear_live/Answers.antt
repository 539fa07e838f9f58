use Rattle.std.proofs.Common.{[], sym, subst}
use Rattle.mse_calls.specs.declared.answers.Answer.{Answer}
use Rattle.mse_calls.specs.declared.answers.Answer.TheVariants.{Done}
use Rattle.source_state.specs.Calls.{after_clear_live}
use Rattle.mse_engine.specs.State.{core_of}
use Rattle.mse_engine.specs.SourceCalls.{from_source}
use Rattle.mse_engine.specs.Calls.{after_call_by, no_element_effect}
use Rattle.mse_engine.specs.Standing.{IsStep, kept_engine}
use Rattle.mse_engine.proofs.SourceSteps.{clear_live_plain, plain_steady, either_step}
use Rattle.mse_engine.proofs.Unmade.{unmade}
use Rattle.mse_engine.proofs.Inside.{source_with, new_state, new_answer}
use Rattle.mse_engine.proofs.source_calls.clear_live.Goals as goal

pub returns : goal.returns
returns g c = record {
  answered = λ st h.
      (let answer = new_answer c.source.inside.state c.source.inside.fault c.source.inside.quota c.source.inside.gap c.args.source.now c.source.view_is (λ s. (after_clear_live s).answer) c.clear_live-refusal.result c.clear_live-refusal.ensures.answer in
      let here = either_step after_clear_live c.args.source.now (source_with c.clear_live-refusal.new.self c.source.inside.fault c.source.inside.quota c.source.inside.gap) c.args.buffers.now.buffers c.args.element.now.state c.reserve.new.self.state (clear_live_plain c.args.source.now.state) (new_state c.source.inside.state c.source.inside.fault c.source.inside.quota c.source.inside.gap c.args.source.now c.source.view_is (λ s. (after_clear_live s).state) c.clear_live-refusal.new.self c.clear_live-refusal.ensures.state) c.reserve.ensures.state c.clear_live-refusal.result c.settle.new.element.state st answer c.settle.ensures.element h in
      subst (λ (a : Answer). IsStep a (kept_engine (source_with c.clear_live-refusal.new.self c.source.inside.fault c.source.inside.quota c.source.inside.gap) c.args.buffers.now.buffers c.settle.new.element.state) (after_call_by (from_source (after_clear_live st.source.state) [] (core_of st)) (no_element_effect st.element) Done)) (sym c.answer_by.ensures) here);
  steady = plain_steady after_clear_live c.args.source.now (source_with c.clear_live-refusal.new.self c.source.inside.fault c.source.inside.quota c.source.inside.gap) c.args.buffers.now.buffers c.args.element.now.state c.reserve.new.self.state (clear_live_plain c.args.source.now.state) (new_state c.source.inside.state c.source.inside.fault c.source.inside.quota c.source.inside.gap c.args.source.now c.source.view_is (λ s. (after_clear_live s).state) c.clear_live-refusal.new.self c.clear_live-refusal.ensures.state) c.reserve.ensures.state c.settle.new.element.state c.requires.steady c.settle.ensures.settled;
  err = tt;
}

pub returns-in_err-reserve : goal.returns-in_err-reserve
returns-in_err-reserve g c = unmade c.from_residual.result c.from_residual.ensures.0 (λ i. kept_engine c.args.source.now c.args.buffers.now.buffers (c.reserve.ensures.state i)) c.requires.steady
