use Rattle.std.proofs.Common.{◌≡◌, ◌∙◌, sym, ap, take, drop}
use Rattle.std.specs.Str.{str_to_ascii_lowercase}
use Rattle.mse_types.specs.Names.{container_of}
use Rattle.mse_types.specs.Texts.{is_type_end}
use Rattle.mse_types.proofs.Agree.{take-nine, drop-nine, supported}
use Rattle.mse_types.proofs.text.read_bytes.Goals as goal

pub returns-in-Some : goal.returns-in-Some
returns-in-Some c =
    let front : c.split_at.result.0.now ≡ take 9 c.args.text.now = c.split_at.ensures.front ∙ (ap (λ n. take n c.args.text.now) c.min.ensures ∙ take-nine c.args.text.now) in
    let back : c.split_at.result.1.now ≡ drop 9 c.args.text.now = c.split_at.ensures.back ∙ (ap (λ n. drop n c.args.text.now) c.min.ensures ∙ drop-nine c.args.text.now) in
    sym (supported c.args.text.now c.in-Some.container
    (ap (λ e. container_of (str_to_ascii_lowercase e)) (sym front) ∙ (sym c.container.ensures ∙ c.in-Some.is))
    (ap is_type_end (sym back) ∙ (sym c.is_end.ensures ∙ c.if-is_end.true)))
