use Rattle.mse_engine.proofs.ReplyParts.{settled_element, settled_again}
use Rattle.mse_engine.proofs.finish.settle_level.Goals as goal

pub returns : goal.returns
returns g c = record {
  element = settled_element c.scene-scene.result c.args.source.now c.args.buffers.now.buffers c.args.element.now.state c.settle.new.self.state c.scene-scene.ensures c.settle.ensures.state;
  settled = settled_again c.scene-scene.result c.args.source.now c.args.buffers.now.buffers c.args.element.now.state c.settle.new.self.state c.scene-scene.ensures c.settle.ensures.state;
}
