use Rattle.std.proofs.Common.{◌∙◌, ap}
use Rattle.source_state.specs.Seekable.{seekable_span}
use Rattle.mse_engine.specs.State.{MediaSource}
use Rattle.mse_engine.specs.Standing.{view_of}
use Rattle.mse_engine.proofs.Metadata.{load_told, no_load}
use Rattle.mse_engine.proofs.finish.load.Goals as goal

pub returns-then-loads-clause-state : goal.returns-then-loads-clause-state
returns-then-loads-clause-state g c = load_told c.args.bounds.now c.at-bounds.result c.seekable-seekable.result c.scene-scene.result c.is_ended.result c.ready.result c.args.loads c.args.source.now c.args.buffers.now.buffers c.args.element.now.state c.load.new.self.state c.if-loads.true (c.ready.ensures ∙ ap (λ (s : MediaSource). s.state.ready) c.source.view_is) c.is_ended.ensures c.at-bounds.ensures (c.seekable-seekable.ensures ∙ ap (λ (s : MediaSource). seekable_span s.state.duration s.state.live c.at-bounds.result.first c.at-bounds.result.last) c.source.view_is) c.scene-scene.ensures c.load.ensures.state c.requires.ready_to_load

pub returns-else-loads-clause-state : goal.returns-else-loads-clause-state
returns-else-loads-clause-state g c = no_load c.args.loads (view_of c.args.source.now c.args.buffers.now.buffers) c.args.element.now.state c.if-loads.false
