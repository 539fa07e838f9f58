use Rattle.std.proofs.Common.{◌∙◌, refl, sym}
use Rattle.std.specs.Prelude.{Some}
use Rattle.mse_calls.specs.declared.answers.Name.TheVariants.{NotSupported, TypeError}
use Rattle.mse_types.specs.declared.answer.TypeAnswer.TheVariants.{Supported, Empty, Unsupported}
use Rattle.source_state.specs.Calls.{add_name, after_add_buffer}
use Rattle.mse_engine.proofs.Inside.{new_answer}
use Rattle.mse_engine.proofs.AskedRefusals.{supported_name, type_name}
use Rattle.mse_engine.proofs.refusals.add_refusal.Goals as goal

pub returns-in-Empty : goal.returns-in-Empty
returns-in-Empty c core same = type_name c.args.text.now Empty core (Some TypeError) (sym c.read_type.ensures.value ∙ c.in-Empty.is) refl

pub returns-in-Unsupported : goal.returns-in-Unsupported
returns-in-Unsupported c core same = type_name c.args.text.now Unsupported core (Some NotSupported) (sym c.read_type.ensures.value ∙ c.in-Unsupported.is) refl

pub returns-in-Supported : goal.returns-in-Supported
returns-in-Supported c core same =
    let told = new_answer c.source.inside.state c.source.inside.fault c.source.inside.quota c.source.inside.gap c.args.source.now c.source.view_is (λ s. add_name (after_add_buffer s).answer) c.add_refusal.result c.add_refusal.ensures in
    type_name c.args.text.now (Supported c.in-Supported.field-0) core c.add_refusal.result (sym c.read_type.ensures.value ∙ c.in-Supported.is) (supported_name c.in-Supported.field-0 c.args.source.now.state core c.add_refusal.result same told)
