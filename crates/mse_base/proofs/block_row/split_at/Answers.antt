use Rattle.std.proofs.Common.{◌≡◌, ◌+◌, suc, ap, ◌∙◌, insert, set, arith, take, drop}
use Rattle.mse_base.specs.Rows.{row}
use Rattle.mse_base.proofs.InRows.{row_is, split_is}
use Rattle.mse_base.proofs.block_row.split_at.Goals as goal

pub split_into-requires-clause-within : goal.split_into-requires-clause-within
split_into-requires-clause-within c = rw (row_is c.args.blocks.now.items c.args.b c.index_mut.result.now c.requires.block c.index_mut.ensures.value) c.requires.within

pub returns-clause-rows : goal.returns-clause-rows
returns-clause-rows c =
    let rows = c.args.blocks.now.items in
    let b = c.args.b in
    let s = c.args.s in
    let z : b + 1 ≡ suc b = omega arith in
    let e = row_is rows b c.index_mut.result.now c.requires.block c.index_mut.ensures.value in
    c.in-Ok.ensures.items ∙ ap (λ l. insert (set rows b l) (b + 1) c.split_into.new.right) (c.split_into.ensures.left ∙ ap (take s) e) ∙ ap (λ r. insert (set rows b (take s (row rows b))) (b + 1) r) (c.split_into.ensures.right ∙ ap (drop s) e) ∙ ap (λ n. insert (set rows b (take s (row rows b))) n (drop s (row rows b))) z ∙ split_is rows b s c.requires.block
