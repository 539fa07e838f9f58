use Rattle.std.proofs.Common.{◌∙◌}
use Rattle.element_seek.specs.State.{has_ended}
use Rattle.mse_engine.proofs.WorkSteps.{meant_attributes}
use Rattle.mse_engine.proofs.engine.Engine.attributes.Goals as goal

pub returns : goal.returns
returns g c =
    let parts = c.self-inside.view_is in
    rw (← c.self.view_is) (λ st h.
    meant_attributes c.self.inside.source c.self.inside.buffers.buffers c.self.inside.element.state st h
    c.state_view.result c.default_start.result c.scene-scene.result c.has_ended.result c.in_ok-seekable.seekable c.new.result c.made.result c.self-inside.inside.0.0.fault
    (λ s a b. c.state_view.ensures s a ((λ i. (parts i).element.state) ∙ b)) (c.default_start.ensures ∙ (λ i. (parts i).element.state.player.default_start))
    c.scene-scene.ensures (c.has_ended.ensures ∙ (λ i. has_ended c.scene-scene.result (parts i).element.state.player)) c.in_ok-seekable.ensures (c.new.ensures ∙ c.in_ok-buffered.ensures) (c.made.ensures ∙ (λ i. (parts i).source.state.made)) (λ i. (parts i).source.fault))
