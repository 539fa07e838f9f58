use Rattle.std.proofs.Common.{◌≡◌, ◌∙◌, ℤ, ap}
use Rattle.element_seek.specs.Settling.{is_unchanged_by_settle}
use Rattle.mse_engine.specs.Scenes.{span_at}
use Rattle.mse_engine.specs.State.{MediaSource}
use Rattle.mse_engine.specs.Standing.{view_of}
use Rattle.mse_engine.proofs.finish.has_level_of_range.Goals as goal

pub returns : goal.returns
returns g c =
    let e = c.args.element.now.state in
    let lasts : c.duration-duration.result ≡ c.args.source.now.state.duration = c.duration-duration.ensures ∙ ap (λ (s : MediaSource). s.state.duration) c.source.view_is in
    let holds : c.span_at-span.result ≡ span_at e.player.position (view_of c.args.source.now c.args.buffers.now.buffers) = c.span_at-span.ensures ∙ ap (λ (t : ℤ). span_at t (view_of c.args.source.now c.args.buffers.now.buffers)) c.position.ensures in
    c.is_unchanged_by_settle.ensures ∙ (λ i. is_unchanged_by_settle (holds i) (lasts i) e.player)
