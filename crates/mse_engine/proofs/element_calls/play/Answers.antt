use Rattle.std.proofs.Common.{◌∙◌, ap}
use Rattle.element_seek.specs.declared.scene.Scene.{Scene}
use Rattle.element_seek.specs.Playing.{after_play}
use Rattle.media_element.specs.Queueing.{refusal, change_by_call, after_player_call}
use Rattle.mse_engine.specs.Standing.{kept_engine}
use Rattle.mse_engine.proofs.ElementEffects.{scene_step, refusal_is, element_effect_steady}
use Rattle.mse_engine.proofs.Unmade.{unmade}
use Rattle.mse_engine.proofs.element_calls.play.Goals as goal

pub returns : goal.returns
returns g c = record {
  answered = λ st h.
      (let told = c.play-refusal.ensures.state ∙ ap (λ (s : Scene). after_player_call (after_play s) c.reserve.new.self.state) c.scene-scene.ensures in
      let name = c.play-refusal.ensures.name ∙ ap (λ (s : Scene). refusal (after_play s c.reserve.new.self.state.player).answer) c.scene-scene.ensures in
      record {
        answers = refusal_is c.args.source.now c.args.buffers.now.buffers c.args.element.now.state c.reserve.new.self.state c.reserve.ensures.state after_play c.play-refusal.result c.answer_by.result c.in_ok-seekable.seekable st c.answer_by.ensures name c.in_ok-seekable.ensures h;
        stands = scene_step c.args.source.now c.args.buffers.now.buffers c.args.element.now.state c.reserve.new.self.state c.reserve.ensures.state (λ scene p. change_by_call (after_play scene) p) c.play-refusal.new.self.state c.settle.new.element.state c.in_ok-seekable.seekable st told c.in_ok-seekable.ensures c.settle.ensures.element h;
      });
  steady = element_effect_steady c.args.source.now c.args.buffers.now.buffers c.args.element.now.state c.reserve.new.self.state c.reserve.ensures.state c.settle.new.element.state c.requires.steady c.settle.ensures.settled;
  err = tt;
}

pub returns-in_err-reserve : goal.returns-in_err-reserve
returns-in_err-reserve g c = unmade c.from_residual.result c.from_residual.ensures.0 (λ i. kept_engine c.args.source.now c.args.buffers.now.buffers (c.reserve.ensures.state i)) c.requires.steady

pub returns-in_err-seekable : goal.returns-in_err-seekable
returns-in_err-seekable g c = unmade c.from_residual-in_err-seekable.result c.from_residual-in_err-seekable.ensures.0 (λ i. kept_engine c.args.source.now c.args.buffers.now.buffers (c.reserve.ensures.state i)) c.requires.steady
