use Rattle.buffer_state.specs.State.{surroundings}
use Rattle.mse_engine.specs.Standing.{kept_engine}
use Rattle.mse_engine.proofs.AskedRefusals.{buffer_name}
use Rattle.mse_engine.proofs.refusals.buffer_refusal.Goals as goal

pub returns : goal.returns
returns g c st h = buffer_name c.args.k c.args.call.now c.around.result.position c.around.result.quota (surroundings c.around.result) (kept_engine c.args.source.now c.args.buffers.now.buffers c.args.element.now.state) st c.refusal_of.result c.around.ensures.surroundings c.around.ensures.position c.around.ensures.quota (c.refusal_of.ensures st.buffers h.buffers) h
