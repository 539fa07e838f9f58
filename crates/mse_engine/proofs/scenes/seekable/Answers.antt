use Rattle.std.proofs.Common.{ap}
use Rattle.mse_engine.specs.State.{MediaSource}
use Rattle.mse_engine.proofs.Bounds.{seekable_there}
use Rattle.mse_engine.proofs.scenes.seekable.Goals as goal

pub returns : goal.returns
returns g c = seekable_there c.seekable-2.result c.bounds_of-bounds.result c.in_ok-buffered.field-0.spans c.source.inside.state c.args.source.now c.args.buffers.now.buffers (ap (λ (s : MediaSource). s.state) c.source.view_is) c.seekable-2.ensures c.bounds_of-bounds.ensures c.in_ok-buffered.ensures
