use Rattle.std.proofs.Common.{◌≡◌, ◌≢◌, ◌∙◌, ◌∷◌, lit<, List, ℕ, Option, subst, Bor}
use Rattle.std.specs.Option.{MatchOption}
use Rattle.std.proofs.lemmas.Str.Pattern.{strip_prefix_char}
use Rattle.call_script.proofs.Signs.{signed-plain}
use Rattle.call_script.proofs.times.signed_amount.Goals as goal

pub returns-in-None-clause-value : goal.returns-in-None-clause-value
returns-in-None-clause-value c =
    let stripped = strip_prefix_char 45 c.args.text.now c.strip_prefix.result c.strip_prefix.ensures.cases (lit< tt) in
    let none = subst (λ (r : Option (Bor (List ℕ))). MatchOption r ((rest : List ℕ) → c.args.text.now ≢ 45 ∷ rest) (λ x. c.args.text.now ≡ 45 ∷ x.now)) c.in-None.is stripped in
    c.read_amount-in-None.ensures.value ∙ signed-plain c.args.text.now none
