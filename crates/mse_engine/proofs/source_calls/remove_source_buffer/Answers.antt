use Rattle.std.proofs.Common.{◌≡◌, ◌∙◌, true, false, [], ◌∷◌, length, nat_lt, refl, sym, ap, subst}
use Rattle.mse_calls.specs.declared.answers.Answer.TheVariants.{Done, Refused}
use Rattle.mse_calls.specs.declared.events.Event.{Event}
use Rattle.buffer_state.specs.State.{surroundings}
use Rattle.source_state.specs.Calls.{after_remove_buffer}
use Rattle.media_element.specs.Queueing.{with_events}
use Rattle.mse_engine.specs.State.{core_of}
use Rattle.mse_engine.specs.CoreEffects.{CoreEffect}
use Rattle.mse_engine.specs.SourceCalls.{remove_effect_by}
use Rattle.mse_engine.specs.Calls.{after_call_by, no_element_effect}
use Rattle.mse_engine.specs.Standing.{KeptEngine, IsStep, IsSteady, kept_engine}
use Rattle.mse_engine.proofs.BufferList.{removal_told, remove_unchanged, remove_refused, remove_step, remove_steady}
use Rattle.mse_engine.proofs.BufferCallSteps.{unmade_steps, made_effect}
use Rattle.mse_engine.proofs.Unmade.{unmade}
use Rattle.mse_engine.proofs.Inside.{source_with, new_state, new_answer}
use Rattle.mse_engine.proofs.source_calls.remove_source_buffer.Goals as goal

pub returns-then-not-is_made : goal.returns-then-not-is_made
returns-then-not-is_made g c = record {
  answered = λ st h.
      (let past : nat_lt c.args.k (length c.args.buffers.now.buffers) ≡ false = cc in
      unmade_steps c.args.k (remove_effect_by c.args.k (after_remove_buffer c.args.k st.source.state) (core_of st)) Done (kept_engine c.args.source.now c.args.buffers.now.buffers c.args.element.now.state) st past c.requires.steady.settled h);
  steady = c.requires.steady;
  err = tt;
}

pub returns-in-Refused : goal.returns-in-Refused
returns-in-Refused g c = record {
  answered = λ st h.
      (let is : nat_lt c.args.k (length c.args.buffers.now.buffers) ≡ true = cc in
      let here = remove_refused c.args.k c.args.source.now (source_with c.remove_buffer.new.self c.source.inside.fault c.source.inside.quota c.source.inside.gap) c.args.buffers.now.buffers c.args.element.now.state c.reserve.new.self.state c.remove_buffer.result c.reserve.ensures.state (new_answer c.source.inside.state c.source.inside.fault c.source.inside.quota c.source.inside.gap c.args.source.now c.source.view_is (λ s. (after_remove_buffer c.args.k s).answer) c.remove_buffer.result c.remove_buffer.ensures.answer) (new_state c.source.inside.state c.source.inside.fault c.source.inside.quota c.source.inside.gap c.args.source.now c.source.view_is (λ s. (after_remove_buffer c.args.k s).state) c.remove_buffer.new.self c.remove_buffer.ensures.state) c.in-Refused.name st c.in-Refused.is c.requires.steady.settled h in
      subst (λ (m : CoreEffect). IsStep (Refused c.in-Refused.name) (kept_engine (source_with c.remove_buffer.new.self c.source.inside.fault c.source.inside.quota c.source.inside.gap) c.args.buffers.now.buffers c.reserve.new.self.state) (after_call_by m (no_element_effect st.element) Done)) (sym (made_effect c.args.k (remove_effect_by c.args.k (after_remove_buffer c.args.k st.source.state) (core_of st)) (kept_engine c.args.source.now c.args.buffers.now.buffers c.args.element.now.state) st is h)) here);
  steady = subst (λ (x : KeptEngine). IsSteady x) (sym (remove_unchanged c.args.k c.args.source.now (source_with c.remove_buffer.new.self c.source.inside.fault c.source.inside.quota c.source.inside.gap) c.args.buffers.now.buffers c.args.element.now.state c.reserve.new.self.state c.remove_buffer.result c.reserve.ensures.state (new_answer c.source.inside.state c.source.inside.fault c.source.inside.quota c.source.inside.gap c.args.source.now c.source.view_is (λ s. (after_remove_buffer c.args.k s).answer) c.remove_buffer.result c.remove_buffer.ensures.answer) (new_state c.source.inside.state c.source.inside.fault c.source.inside.quota c.source.inside.gap c.args.source.now c.source.view_is (λ s. (after_remove_buffer c.args.k s).state) c.remove_buffer.new.self c.remove_buffer.ensures.state) c.in-Refused.name c.in-Refused.is)) c.requires.steady;
  err = tt;
}

pub returns-in-Gone : goal.returns-in-Gone
returns-in-Gone g c = record {
  answered = λ st h.
      (let is : nat_lt c.args.k (length c.args.buffers.now.buffers) ≡ true = cc in
      let last = c.tell.ensures.state ∙ ap (λ (x : Event). with_events (x ∷ []) c.tell_inactive.new.element.state) c.event.ensures in
      let heard = removal_told c.args.k c.remove-reply.result c.in-Gone.active c.reserve.new.self.state c.tell_kinds.new.self.state c.tell_inactive.new.element.state c.tell.new.self.state c.tell_kinds.ensures.state c.tell_inactive.ensures.state last in
      let here = remove_step c.args.k c.args.source.now (source_with c.remove_buffer.new.self c.source.inside.fault c.source.inside.quota c.source.inside.gap) c.args.buffers.now.buffers c.args.element.now.state c.reserve.new.self.state c.remove_buffer.result c.reserve.ensures.state (new_answer c.source.inside.state c.source.inside.fault c.source.inside.quota c.source.inside.gap c.args.source.now c.source.view_is (λ s. (after_remove_buffer c.args.k s).answer) c.remove_buffer.result c.remove_buffer.ensures.answer) (new_state c.source.inside.state c.source.inside.fault c.source.inside.quota c.source.inside.gap c.args.source.now c.source.view_is (λ s. (after_remove_buffer c.args.k s).state) c.remove_buffer.new.self c.remove_buffer.ensures.state) c.in-Gone.active c.remove-reply.result (surroundings c.around-around.result) c.remove-reply.new.self.buffers c.tell.new.self.state c.settle.new.element.state st c.in-Gone.is c.around-around.ensures.surroundings c.remove-reply.ensures.done.answered heard c.settle.ensures.element h in
      subst (λ (m : CoreEffect). IsStep Done (kept_engine (source_with c.remove_buffer.new.self c.source.inside.fault c.source.inside.quota c.source.inside.gap) c.remove-reply.new.self.buffers c.settle.new.element.state) (after_call_by m (no_element_effect st.element) Done)) (sym (made_effect c.args.k (remove_effect_by c.args.k (after_remove_buffer c.args.k st.source.state) (core_of st)) (kept_engine c.args.source.now c.args.buffers.now.buffers c.args.element.now.state) st is h)) here);
  steady = remove_steady c.args.k c.args.source.now (source_with c.remove_buffer.new.self c.source.inside.fault c.source.inside.quota c.source.inside.gap) c.args.buffers.now.buffers c.args.element.now.state c.reserve.new.self.state c.remove_buffer.result c.reserve.ensures.state (new_answer c.source.inside.state c.source.inside.fault c.source.inside.quota c.source.inside.gap c.args.source.now c.source.view_is (λ s. (after_remove_buffer c.args.k s).answer) c.remove_buffer.result c.remove_buffer.ensures.answer) (new_state c.source.inside.state c.source.inside.fault c.source.inside.quota c.source.inside.gap c.args.source.now c.source.view_is (λ s. (after_remove_buffer c.args.k s).state) c.remove_buffer.new.self c.remove_buffer.ensures.state) c.remove-reply.result c.around-around.result.duration c.remove-reply.new.self.buffers c.settle.new.element.state c.around-around.ensures.duration (c.remove-reply.ensures.done.unchanged refl) c.remove-reply.ensures.done.within_duration c.remove-reply.ensures.len c.requires.steady c.settle.ensures.settled;
  err = tt;
}

pub returns-in_err-reserve : goal.returns-in_err-reserve
returns-in_err-reserve g c = unmade c.from_residual.result c.from_residual.ensures.0 (λ i. kept_engine c.args.source.now c.args.buffers.now.buffers (c.reserve.ensures.state i)) c.requires.steady
