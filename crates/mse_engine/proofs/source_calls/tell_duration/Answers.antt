use Rattle.std.proofs.Common.{◌∙◌, ap}
use Rattle.std.specs.Prelude.{Option, None}
use Rattle.source_state.specs.Seekable.{seekable_span}
use Rattle.mse_base.specs.declared.span.Span.{Span}
use Rattle.mse_calls.specs.Ready.{is_ended}
use Rattle.element_seek.specs.declared.scene.Scene.{Scene}
use Rattle.track_buffers.specs.Buffered.{last_end}
use Rattle.media_element.specs.DurationChange.{after_element_change}
use Rattle.mse_engine.specs.Scenes.{buffered_in, start_of_first, scene_with, span_at}
use Rattle.mse_engine.specs.State.{MediaSource}
use Rattle.mse_engine.specs.Standing.{view_of}
use Rattle.mse_engine.proofs.DurationChanges.{fall_alike}
use Rattle.mse_engine.proofs.source_calls.tell_duration.Goals as goal

pub returns-clause-state : goal.returns-clause-state
returns-clause-state g c =
    let v = view_of c.args.source.now c.args.buffers.now.buffers in
    let at = c.args.element.now.state.player.position in
    let told = c.change_duration.ensures.state ∙ ap (λ (s : Scene). after_element_change c.args.duration s c.args.element.now.state) c.scene-scene.ensures in
    let sought = ap (λ (o : Option Span). after_element_change c.args.duration (scene_with o at v) c.args.element.now.state) (c.seekable-seekable.ensures ∙ ap (λ (s : MediaSource). seekable_span s.state.duration s.state.live None None) c.source.view_is) in
    told ∙ (sought ∙ fall_alike c.args.source.now.state.duration c.args.source.now.state.live (start_of_first (buffered_in v)) (last_end (buffered_in v)) (is_ended c.args.source.now.state.ready) (span_at at v) c.args.element.now.state c.args.duration c.requires.duration_told)
