use Rattle.std.proofs.Common.{◌≡◌, ◌∙◌, ℤ, ap}
use Rattle.mse_calls.specs.Ready.{is_ended}
use Rattle.mse_engine.specs.Scenes.{span_at}
use Rattle.mse_engine.specs.State.{MediaSource}
use Rattle.mse_engine.specs.Standing.{view_of}
use Rattle.mse_engine.proofs.scenes.scene.Goals as goal

pub returns : goal.returns
returns g c =
    let lasts : c.duration.result ≡ c.args.source.now.state.duration = c.duration.ensures ∙ ap (λ (s : MediaSource). s.state.duration) c.source.view_is in
    let ends : c.is_ended.result ≡ is_ended c.args.source.now.state.ready = c.is_ended.ensures ∙ (ap is_ended c.ready.ensures ∙ ap (λ (s : MediaSource). is_ended s.state.ready) c.source.view_is) in
    let holds : c.span_at.result ≡ span_at c.args.element.now.state.player.position (view_of c.args.source.now c.args.buffers.now.buffers) = c.span_at.ensures ∙ ap (λ (t : ℤ). span_at t (view_of c.args.source.now c.args.buffers.now.buffers)) c.position.ensures in
    λ i. record { duration = lasts i; ended = ends i; span = holds i; seekable = c.args.seekable }
