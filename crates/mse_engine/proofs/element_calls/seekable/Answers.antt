use Rattle.std.proofs.Common.{◌∙◌, ap}
use Rattle.mse_calls.specs.declared.answers.Answer.TheVariants as answer
use Rattle.mse_engine.specs.Scenes.{core_view, seekable_in}
use Rattle.mse_engine.specs.State.{MediaSource, core_of}
use Rattle.mse_engine.specs.Standing.{kept_engine}
use Rattle.mse_engine.proofs.StepEnds.{seen}
use Rattle.mse_engine.proofs.ElementEffects.{read_step}
use Rattle.mse_engine.proofs.element_calls.seekable.Goals as goal

pub returns : goal.returns
returns g c e steady st h =
    let view = seen c.args.source.now c.args.buffers.now.buffers st.buffers st.source.state (ap (λ (s : MediaSource). s.state) h.source) h.buffers in
    let told = c.in_ok-seekable.ensures ∙ ap seekable_in view in
    read_step (kept_engine c.args.source.now c.args.buffers.now.buffers e) st (answer.Range c.in_ok-seekable.field-0) (answer.Range (seekable_in (core_view (core_of st)))) (λ i. answer.Range (told i)) steady.settled h
