use Rattle.std.proofs.Common.{◌∙◌, ap}
use Rattle.source_buffers.specs.All.{lowest_running}
use Rattle.source_buffers.proofs.KeptParts.{same_running}
use Rattle.mse_engine.proofs.engine.Engine.running.Goals as goal

pub returns : goal.returns
returns g c = rw (← c.self.view_is) (λ st h. c.running.ensures ∙ ap lowest_running (same_running c.self.inside.buffers.buffers st.buffers h.buffers))
