use Rattle.std.proofs.Common.{◌≡◌, ◌+◌, ◌∙◌, length, ap, arith, Some, None}
use Rattle.std.proofs.lemmas.List.{get_or_default}
use Rattle.mse_base.proofs.Compared.{max_of_two}
use Rattle.mse_base.specs.Moments.{greatest_of_two}
use Rattle.track_index.proofs.BlockEnds.{last_top}
use Rattle.track_index.proofs.tops.refresh_with.Goals as goal

pub returns-then-b-after-clause-items : goal.returns-then-b-after-clause-items
returns-then-b-after-clause-items c =
    let ts = c.args.tops.now.items in
    let rows = c.args.list.now.rows in
    let b = c.args.b in
    let same : length rows ≡ length ts = omega (arith, c.len-before.ensures, c.blocks-after.ensures, c.if-after-before.true) in
    let last : b + 1 ≡ length ts = omega (arith, same, c.blocks-after.ensures, c.if-b-after.true) in
    let old = c.index.ensures ∙ get_or_default ts b c.index.result.now None (omega (arith, last)) in
    last_top ts rows b c.max.result last same c.requires.mendable.front (c.max.ensures ∙ max_of_two c.index.result.now (Some c.args.end) ∙ ap (λ t. greatest_of_two t (Some c.args.end)) old ∙ c.requires.last last)
