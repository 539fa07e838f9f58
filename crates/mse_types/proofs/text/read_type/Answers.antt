use Rattle.std.proofs.Common.{◌≡◌, ◌∙◌, sym, ap}
use Rattle.mse_types.specs.Texts.{type_of}
use Rattle.mse_types.proofs.Agree.{type_of-from, type_of-to}
use Rattle.mse_types.proofs.text.read_type.Goals as goal

pub returns-clause-supported : goal.returns-clause-supported
returns-clause-supported c =
    let is : c.read_bytes.result ≡ type_of c.args.text.now = c.read_bytes.ensures ∙ ap type_of c.as_bytes.ensures.value in
    λ k. (λ e. type_of-from c.args.text.now k (sym is ∙ e), λ h. is ∙ type_of-to c.args.text.now k h)
