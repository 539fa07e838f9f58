use Rattle.mse_engine.proofs.engine.Engine.refusal.Goals as goal

pub returns : goal.returns
returns g c = rw (← c.self.view_is) c.call_refusal.ensures
