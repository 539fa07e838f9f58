use Rattle.std.proofs.Common.{◌∙◌, [], refl, sym, ap, subst}
use Rattle.mse_base.specs.declared.ticks.Moment.{Moment}
use Rattle.mse_calls.specs.declared.answers.Name.TheVariants.{TypeError}
use Rattle.mse_calls.specs.declared.calls.Call.TheVariants as call
use Rattle.element_seek.specs.declared.scene.Scene.{Scene}
use Rattle.element_seek.specs.Playing.{after_advance}
use Rattle.media_element.specs.Queueing.{refusal, change_by_call, after_player_call}
use Rattle.mse_engine.specs.Scenes.{core_view, seekable_in}
use Rattle.mse_engine.specs.State.{core_of}
use Rattle.mse_engine.specs.Calls.{advance_effect}
use Rattle.mse_engine.specs.Calls as calls
use Rattle.mse_engine.specs.Standing.{IsStep, kept_engine, view_of}
use Rattle.mse_engine.proofs.ElementEffects.{scene_step, refusal_is, element_effect_steady, advance_refused, element_effect_name_step}
use Rattle.mse_engine.proofs.Unmade.{unmade}
use Rattle.mse_engine.proofs.element_calls.advance.Goals as goal

pub returns : goal.returns
returns g c = record {
  answered = λ st h.
      (let told = c.advance-refusal.ensures.state ∙ ap (λ (s : Scene). after_player_call (after_advance c.in-At.t s) c.reserve.new.self.state) c.scene-scene.ensures in
      let name = c.advance-refusal.ensures.name ∙ ap (λ (s : Scene). refusal (after_advance c.in-At.t s c.reserve.new.self.state.player).answer) c.scene-scene.ensures in
      subst (λ (t : Moment). IsStep c.answer_by.result (kept_engine c.args.source.now c.args.buffers.now.buffers c.settle.new.element.state) (calls.after_call [] (call.Advance t) st)) (sym c.in-At.is) (record {
        answers = refusal_is c.args.source.now c.args.buffers.now.buffers c.args.element.now.state c.reserve.new.self.state c.reserve.ensures.state (after_advance c.in-At.t) c.advance-refusal.result c.answer_by.result (seekable_in (view_of c.args.source.now c.args.buffers.now.buffers)) st c.answer_by.ensures name refl h;
        stands = scene_step c.args.source.now c.args.buffers.now.buffers c.args.element.now.state c.reserve.new.self.state c.reserve.ensures.state (λ scene p. change_by_call (after_advance c.in-At.t scene) p) c.advance-refusal.new.self.state c.settle.new.element.state (seekable_in (view_of c.args.source.now c.args.buffers.now.buffers)) st told refl c.settle.ensures.element h;
      }));
  steady = element_effect_steady c.args.source.now c.args.buffers.now.buffers c.args.element.now.state c.reserve.new.self.state c.reserve.ensures.state c.settle.new.element.state c.requires.steady c.settle.ensures.settled;
  err = tt;
}

pub returns-in_err-reserve : goal.returns-in_err-reserve
returns-in_err-reserve g c = unmade c.from_residual.result c.from_residual.ensures.0 (λ i. kept_engine c.args.source.now c.args.buffers.now.buffers (c.reserve.ensures.state i)) c.requires.steady

pub returns-in_default : goal.returns-in_default
returns-in_default g c = record { answered = λ st h. (element_effect_name_step (kept_engine c.args.source.now c.args.buffers.now.buffers c.args.element.now.state) st TypeError (advance_effect c.args.t (core_view (core_of st)) st.element) (advance_refused c.args.t (core_view (core_of st)) st.element c.in_default.not-At) c.requires.steady.settled h); steady = c.requires.steady; err = tt }
