use Rattle.std.proofs.Common.{◌≡◌, ◌∙◌, [], ◌∷◌, sym, ap, subst}
use Rattle.mse_calls.specs.declared.events.Event.{Event}
use Rattle.mse_calls.specs.declared.events.EventKind.TheVariants as kind
use Rattle.mse_calls.specs.declared.events.Target.TheVariants as target
use Rattle.source_state.specs.Calls.{after_attach}
use Rattle.media_element.specs.Queueing.{event_at, with_events}
use Rattle.mse_engine.specs.Signals.{Tell}
use Rattle.mse_engine.specs.Standing.{KeptEngine, IsSteady, kept_engine}
use Rattle.mse_engine.proofs.SourceSteps.{attach_plain, plain_steady, told_step, unchanged, refused_step}
use Rattle.mse_engine.proofs.Unmade.{unmade}
use Rattle.mse_engine.proofs.Inside.{source_with, new_state, new_answer}
use Rattle.mse_engine.proofs.source_calls.attach.Goals as goal

pub returns : goal.returns
returns g c = record {
  answered = λ st h.
      (let told : c.tell.new.self.state ≡ with_events (event_at target.Source kind.SourceOpen ∷ []) c.reserve.new.self.state = c.tell.ensures.state ∙ ap (λ (x : Event). with_events (x ∷ []) c.reserve.new.self.state) c.event.ensures in
      let none = sym (new_answer c.source.inside.state c.source.inside.fault c.source.inside.quota c.source.inside.gap c.args.source.now c.source.view_is (λ s. (after_attach s).answer) c.attach.result c.attach.ensures.answer) ∙ c.in_default.is in
      told_step after_attach c.args.source.now (source_with c.attach.new.self c.source.inside.fault c.source.inside.quota c.source.inside.gap) c.args.buffers.now.buffers c.args.element.now.state c.reserve.new.self.state (attach_plain c.args.source.now.state) (new_state c.source.inside.state c.source.inside.fault c.source.inside.quota c.source.inside.gap c.args.source.now c.source.view_is (λ s. (after_attach s).state) c.attach.new.self c.attach.ensures.state) c.reserve.ensures.state c.tell.new.self.state c.settle.new.element.state (Tell (event_at target.Source kind.SourceOpen ∷ []) ∷ []) st none told c.settle.ensures.element h);
  steady = plain_steady after_attach c.args.source.now (source_with c.attach.new.self c.source.inside.fault c.source.inside.quota c.source.inside.gap) c.args.buffers.now.buffers c.args.element.now.state c.reserve.new.self.state (attach_plain c.args.source.now.state) (new_state c.source.inside.state c.source.inside.fault c.source.inside.quota c.source.inside.gap c.args.source.now c.source.view_is (λ s. (after_attach s).state) c.attach.new.self c.attach.ensures.state) c.reserve.ensures.state c.settle.new.element.state c.requires.steady c.settle.ensures.settled;
  err = tt;
}

pub returns-in-Some : goal.returns-in-Some
returns-in-Some g c = record {
  answered = λ st h.
      (let some = sym (new_answer c.source.inside.state c.source.inside.fault c.source.inside.quota c.source.inside.gap c.args.source.now c.source.view_is (λ s. (after_attach s).answer) c.attach.result c.attach.ensures.answer) ∙ c.in-Some.is in
      refused_step after_attach c.args.source.now (source_with c.attach.new.self c.source.inside.fault c.source.inside.quota c.source.inside.gap) c.args.buffers.now.buffers c.args.element.now.state c.reserve.new.self.state (attach_plain c.args.source.now.state) (new_state c.source.inside.state c.source.inside.fault c.source.inside.quota c.source.inside.gap c.args.source.now c.source.view_is (λ s. (after_attach s).state) c.attach.new.self c.attach.ensures.state) c.reserve.ensures.state c.in-Some.name (Tell (event_at target.Source kind.SourceOpen ∷ []) ∷ []) st some c.requires.steady.settled h);
  steady =
      (let some = sym (new_answer c.source.inside.state c.source.inside.fault c.source.inside.quota c.source.inside.gap c.args.source.now c.source.view_is (λ s. (after_attach s).answer) c.attach.result c.attach.ensures.answer) ∙ c.in-Some.is in
      subst (λ (x : KeptEngine). IsSteady x) (sym (unchanged after_attach c.args.source.now (source_with c.attach.new.self c.source.inside.fault c.source.inside.quota c.source.inside.gap) c.args.buffers.now.buffers c.args.element.now.state c.reserve.new.self.state (attach_plain c.args.source.now.state) (new_state c.source.inside.state c.source.inside.fault c.source.inside.quota c.source.inside.gap c.args.source.now c.source.view_is (λ s. (after_attach s).state) c.attach.new.self c.attach.ensures.state) c.reserve.ensures.state c.in-Some.name some)) c.requires.steady);
  err = tt;
}

pub returns-in_err-reserve : goal.returns-in_err-reserve
returns-in_err-reserve g c = unmade c.from_residual.result c.from_residual.ensures.0 (λ i. kept_engine c.args.source.now c.args.buffers.now.buffers (c.reserve.ensures.state i)) c.requires.steady
