use Rattle.mse_engine.proofs.Wholes.{new_whole}
use Rattle.mse_engine.proofs.engine.Engine.new.Goals as goal

pub invariant_of-result : goal.invariant_of-result
invariant_of-result g c = new_whole c.args.quota c.args.gap c.new.result c.new-2.result.buffers c.new-3.result.state c.new.ensures c.new-2.ensures c.new-3.ensures
