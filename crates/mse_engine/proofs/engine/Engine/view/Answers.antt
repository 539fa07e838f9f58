use Rattle.std.proofs.Common.{◌≡◌, ◌∙◌, sym, subst}
use Rattle.mse_engine.specs.State.{MediaSource}
use Rattle.mse_engine.specs.Standing.{KeptEngine, Stands, kept_engine}
use Rattle.mse_engine.proofs.Inside.{source_with}
use Rattle.mse_engine.proofs.WorkSteps.{meant_shown}
use Rattle.mse_engine.proofs.engine.Engine.view.Goals as goal

pub returns : goal.returns
returns g c st h =
    let parts = c.self-inside.view_is in
    let x = c.self-inside.inside.0 in
    let source : MediaSource = source_with x.0.state x.0.fault x.0.quota x.0.gap in
    let all : kept_engine source x.1.0.buffers x.1.1.0.state ≡ c.args.self.now = (λ i. kept_engine (parts i).source (parts i).buffers.buffers (parts i).element.state) ∙ c.self.view_is in
    let stands = subst (λ (y : KeptEngine). Stands y st) (sym all) h in
    let within : c.self.inside.source ≡ source = λ i. ((sym parts) i).source in
    meant_shown source x.1.0.buffers x.1.1.0.state st stands c.state_view.result c.from_vec.result c.is_ended.result c.ready.result c.ready.ensures c.is_ended.ensures (λ bs a. c.from_vec.ensures ∙ c.in_ok-buffers.ensures bs a) (λ s a b. c.state_view.ensures s (within ∙ a) b)
