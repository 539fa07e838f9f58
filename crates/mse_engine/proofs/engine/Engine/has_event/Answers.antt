use Rattle.std.proofs.Common.{◌∙◌, ◌==◌, not, length, ap}
use Rattle.media_element.specs.State.{ElementState}
use Rattle.mse_engine.proofs.engine.Engine.has_event.Goals as goal

pub returns : goal.returns
returns g c = rw (← c.self.view_is) (λ st h. c.has_event.ensures ∙ ap (λ (e : ElementState). not (length e.queue == 0)) h.element)
