use Rattle.std.proofs.Common.{◌∙◌, ap}
use Rattle.element_seek.specs.declared.scene.Scene.{Scene}
use Rattle.element_seek.specs.Turns.{is_due}
use Rattle.media_element.specs.Queueing.{after_own_turn}
use Rattle.mse_engine.proofs.ElementEffects.{element_effect_steady, steady_still}
use Rattle.mse_engine.proofs.WorkSteps.{turn_did, turn_idle, idle_steady}
use Rattle.mse_engine.proofs.steps.turn_by_itself.Goals as goal

pub returns-clause-worked : goal.returns-clause-worked
returns-clause-worked g c st h = turn_did c.args.source.now c.args.buffers.now.buffers c.args.element.now.state c.reserve.new.self.state c.turn.new.self.state c.settle.new.element.state c.turn.result st c.reserve.ensures.state (c.turn.ensures.due ∙ ap (λ (s : Scene). is_due s c.reserve.new.self.state.player) c.scene-scene.ensures) c.if-not-turn.false (c.turn.ensures.state ∙ ap (λ (s : Scene). after_own_turn s c.reserve.new.self.state) c.scene-scene.ensures) c.settle.ensures.element h

pub returns-clause-steady : goal.returns-clause-steady
returns-clause-steady g c = element_effect_steady c.args.source.now c.args.buffers.now.buffers c.args.element.now.state c.reserve.new.self.state c.reserve.ensures.state c.settle.new.element.state c.requires.steady c.settle.ensures.settled

pub returns-then-not-turn-clause-worked : goal.returns-then-not-turn-clause-worked
returns-then-not-turn-clause-worked g c st h = turn_idle c.args.source.now c.args.buffers.now.buffers c.args.element.now.state c.reserve.new.self.state c.turn.new.self.state c.turn.result st c.reserve.ensures.state (c.turn.ensures.due ∙ ap (λ (s : Scene). is_due s c.reserve.new.self.state.player) c.scene-scene.ensures) c.if-not-turn.true (c.turn.ensures.state ∙ ap (λ (s : Scene). after_own_turn s c.reserve.new.self.state) c.scene-scene.ensures) h

pub returns-then-not-turn-clause-steady : goal.returns-then-not-turn-clause-steady
returns-then-not-turn-clause-steady g c = idle_steady c.args.source.now c.args.buffers.now.buffers c.args.element.now.state c.reserve.new.self.state c.turn.new.self.state c.turn.result c.reserve.ensures.state (c.turn.ensures.due ∙ ap (λ (s : Scene). is_due s c.reserve.new.self.state.player) c.scene-scene.ensures) c.if-not-turn.true (c.turn.ensures.state ∙ ap (λ (s : Scene). after_own_turn s c.reserve.new.self.state) c.scene-scene.ensures) c.requires.steady

pub returns-in_err-reserve-clause-steady : goal.returns-in_err-reserve-clause-steady
returns-in_err-reserve-clause-steady g c = steady_still c.args.source.now c.args.buffers.now.buffers c.args.element.now.state c.reserve.new.self.state c.reserve.ensures.state c.requires.steady
