use Rattle.std.proofs.Common.{◌∙◌, [], refl, sym, ap, subst}
use Rattle.mse_base.specs.declared.ticks.Moment.{Moment}
use Rattle.mse_calls.specs.declared.answers.Answer.TheVariants.{Done}
use Rattle.mse_calls.specs.declared.answers.Name.TheVariants.{TypeError}
use Rattle.mse_calls.specs.declared.calls.Call.TheVariants as call
use Rattle.element_seek.specs.declared.scene.Scene.{Scene}
use Rattle.element_seek.specs.Seeking.{after_seek}
use Rattle.media_element.specs.Queueing.{after_action}
use Rattle.mse_engine.specs.Scenes.{core_view}
use Rattle.mse_engine.specs.State.{core_of}
use Rattle.mse_engine.specs.Calls.{seek_effect, after_call}
use Rattle.mse_engine.specs.Standing.{IsStep, kept_engine}
use Rattle.mse_engine.proofs.ElementEffects.{scene_step, element_effect_steady, seek_refused, element_effect_name_step}
use Rattle.mse_engine.proofs.Unmade.{unmade}
use Rattle.mse_engine.proofs.element_calls.seek.Goals as goal

pub returns : goal.returns
returns g c = record {
  answered = λ st h.
      (let told = c.seek.ensures.state ∙ ap (λ (s : Scene). after_action (after_seek c.in-At.t s) c.reserve.new.self.state) c.scene-scene.ensures in
      subst (λ (t : Moment). IsStep Done (kept_engine c.args.source.now c.args.buffers.now.buffers c.settle.new.element.state) (after_call [] (call.Seek t) st)) (sym c.in-At.is) (record {
        answers = refl;
        stands = scene_step c.args.source.now c.args.buffers.now.buffers c.args.element.now.state c.reserve.new.self.state c.reserve.ensures.state (after_seek c.in-At.t) c.seek.new.self.state c.settle.new.element.state c.in_ok-seekable.seekable st told c.in_ok-seekable.ensures c.settle.ensures.element h;
      }));
  steady = element_effect_steady c.args.source.now c.args.buffers.now.buffers c.args.element.now.state c.reserve.new.self.state c.reserve.ensures.state c.settle.new.element.state c.requires.steady c.settle.ensures.settled;
  err = tt;
}

pub returns-in_err-reserve : goal.returns-in_err-reserve
returns-in_err-reserve g c = unmade c.from_residual.result c.from_residual.ensures.0 (λ i. kept_engine c.args.source.now c.args.buffers.now.buffers (c.reserve.ensures.state i)) c.requires.steady

pub returns-in_err-seekable : goal.returns-in_err-seekable
returns-in_err-seekable g c = unmade c.from_residual-in_err-seekable.result c.from_residual-in_err-seekable.ensures.0 (λ i. kept_engine c.args.source.now c.args.buffers.now.buffers (c.reserve.ensures.state i)) c.requires.steady

pub returns-in_default : goal.returns-in_default
returns-in_default g c = record { answered = λ st h. (element_effect_name_step (kept_engine c.args.source.now c.args.buffers.now.buffers c.args.element.now.state) st TypeError (seek_effect c.args.t (core_view (core_of st)) st.element) (seek_refused c.args.t (core_view (core_of st)) st.element c.in_default.not-At) c.requires.steady.settled h); steady = c.requires.steady; err = tt }
