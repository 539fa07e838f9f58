use Rattle.mse_engine.proofs.WorkSteps.{meant_span}
use Rattle.mse_engine.proofs.engine.Engine.element_span.Goals as goal

pub returns : goal.returns
returns g c = rw (← c.self.view_is) (λ st h. meant_span c.self.inside.source c.self.inside.buffers.buffers c.self.inside.element.state st h c.position.result c.span_at.result c.position.ensures c.span_at.ensures)
