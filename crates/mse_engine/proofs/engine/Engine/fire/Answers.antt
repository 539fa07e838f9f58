use Rattle.mse_engine.specs.Standing.{KeptEngine, kept_engine}
use Rattle.mse_engine.proofs.WorkSteps.{fired}
use Rattle.mse_engine.proofs.Wholes.{fire_steady, whole_fire}
use Rattle.mse_engine.proofs.engine.Engine.fire.Goals as goal

pub invariant_of-self : goal.invariant_of-self
invariant_of-self g c =
    let e = c.self.inside.element.state in
    let old : KeptEngine = kept_engine c.self.inside.source c.self.inside.buffers.buffers e in
    let new : KeptEngine = kept_engine c.self.inside.source c.self.inside.buffers.buffers c.fire.new.self.state in
    let before = c.self.invariant.inside in
    let steady = fire_steady c.self.inside.source c.self.inside.buffers.buffers e c.fire.new.self.state c.fire.ensures.state c.self.invariant.steady in
    whole_fire c.fire.result old new c.self.invariant steady (fired c.fire.result c.self.inside.source c.self.inside.buffers.buffers e c.fire.new.self.state before.state c.fire.ensures.event c.fire.ensures.state before.stands)

pub returns-clause-fired : goal.returns-clause-fired
returns-clause-fired g c = rw (← c.self.view_is) (λ st h. fired c.fire.result c.self.inside.source c.self.inside.buffers.buffers c.self.inside.element.state c.fire.new.self.state st c.fire.ensures.event c.fire.ensures.state h)
