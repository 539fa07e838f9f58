use Rattle.std.proofs.Common.{◌∙◌, ap}
use Rattle.element_seek.specs.declared.scene.Scene.{Scene}
use Rattle.element_seek.specs.Turns.{is_due}
use Rattle.mse_engine.proofs.WorkSteps.{meant_due}
use Rattle.mse_engine.proofs.engine.Engine.due.Goals as goal

pub returns : goal.returns
returns g c = rw (← c.self.view_is) (λ st h. meant_due c.self.inside.source c.self.inside.buffers.buffers c.self.inside.element.state st h c.due.result (c.due.ensures ∙ ap (λ (s : Scene). is_due s c.self.inside.element.state.player) c.scene-scene.ensures))
