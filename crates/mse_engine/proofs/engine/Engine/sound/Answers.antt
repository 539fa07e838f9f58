use Rattle.mse_engine.specs.Standing.{kept_engine}
use Rattle.mse_engine.proofs.Settled.{kept-settled}
use Rattle.mse_engine.proofs.Wholes.{kept_lists}
use Rattle.mse_engine.proofs.engine.Engine.sound.Goals as goal

pub returns-clause-settled : goal.returns-clause-settled
returns-clause-settled g c = rw (← c.self.view_is) (λ st h. kept-settled (kept_engine c.self.inside.source c.self.inside.buffers.buffers c.self.inside.element.state) st c.self.invariant.steady.settled h)

pub returns-clause-lists : goal.returns-clause-lists
returns-clause-lists g c = rw (← c.self.view_is) (kept_lists (kept_engine c.self.inside.source c.self.inside.buffers.buffers c.self.inside.element.state) c.self.invariant)
