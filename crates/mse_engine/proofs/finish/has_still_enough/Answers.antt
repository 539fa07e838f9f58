use Rattle.std.proofs.Common.{◌≡◌, ◌∙◌, ◌*◌, ℤ, pos, ◌+ℤ◌, true, Some, sym, ap}
use Rattle.mse_base.specs.Time.{SECOND}
use Rattle.mse_base.specs.declared.ticks.Moment.{Moment}
use Rattle.mse_base.proofs.TickLemmas.{tick_some}
use Rattle.element_seek.specs.Settling.{is_unchanged_by_settle}
use Rattle.track_buffers.specs.Buffered.{lasts_to}
use Rattle.mse_engine.specs.Scenes.{span_at}
use Rattle.mse_engine.specs.State.{MediaSource}
use Rattle.mse_engine.specs.Standing.{kept_engine, kept_scene, view_of}
use Rattle.mse_engine.proofs.StillEnough.{still_enough}
use Rattle.mse_engine.proofs.finish.has_still_enough.Goals as goal

pub returns : goal.returns
returns g c = λ long.
    let e = c.args.element.now.state in
    let v = view_of c.args.source.now c.args.buffers.now.buffers in
    let here : c.position-start.result ≡ e.player.position = c.position-start.ensures in
    let later : c.in-Some.end ≡ e.player.position +ℤ pos (3 * SECOND) =
    tick_some (c.position-start.result +ℤ pos (3 * SECOND)) c.in-Some.end (sym c.three_seconds_after.ensures ∙ c.in-Some.is)
    ∙ ap (λ (z : ℤ). z +ℤ pos (3 * SECOND)) here in
    let lasts : c.duration.result ≡ c.args.source.now.state.duration = c.duration.ensures ∙ ap (λ (s : MediaSource). s.state.duration) c.source.view_is in
    let unchanged : is_unchanged_by_settle (Some (record { start = c.position-start.result; end = c.in-Some.end })) c.args.source.now.state.duration e.player ≡ true =
    sym (ap (λ (d : Moment). is_unchanged_by_settle (Some (record { start = c.position-start.result; end = c.in-Some.end })) d e.player) lasts) ∙ sym c.is_unchanged_by_settle.ensures ∙ c.if-not-is_unchanged_by_settle.false in
    let holds : lasts_to c.in-Some.end (span_at e.player.position v) ≡ true =
    sym (ap (λ (t : ℤ). lasts_to c.in-Some.end (span_at t v)) here) ∙ sym c.is_buffered_up_to.ensures ∙ long in
    still_enough (kept_scene (kept_engine c.args.source.now c.args.buffers.now.buffers e)) e.player c.position-start.result c.in-Some.end later unchanged holds
