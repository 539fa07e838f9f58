use Rattle.std.proofs.Common.{rules, tests, ◌∙◌, sym}
use Rattle.std.proofs.lemmas.Iterator.{YieldsList-from_slice}
use Rattle.std.proofs.lemmas.Iterator.Search.{any_from_yields_List}
use Rattle.mse_types.specs.Texts.{is_bare_end}
use Rattle.mse_types.proofs.text.bare_value.Goals as goal

pub returns-else-any : goal.returns-else-any
returns-else-any c =
    let none = any_from_yields_List is_bare_end _ _ c.any.result c.any.ensures.ran (YieldsList-from_slice c.args.value.now cc) (λ x b q k. search (rules, tests)) in
    rw (sym none ∙ c.if-any.false)
