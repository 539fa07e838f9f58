use Rattle.std.proofs.Common.{◌≡◌, ◌+◌, ◌-◌, ◌<◌, ◌≤◌, ℕ, true, false, take, length, subst, sym, ap, arith}
use Rattle.std.specs.List.{AllByRecursion}
use Rattle.std.proofs.lemmas.List.{drop_all}
use Rattle.mse_base.specs.Rows.{row_items, start}
use Rattle.block_list.proofs.RowItems.{start_more, start_all}
use Rattle.block_list.proofs.TestedFronts.{some_row, passed, failed}
use Rattle.block_list.proofs.finding.place_near_end.Goals as goal

pub overflow_sub-last : goal.overflow_sub-last
overflow_sub-last g c =
    let rows = c.args.list.now.rows in
    let n = c.blocks-blocks.result in
    let b = n - 1 in
    let l : b < length rows = omega (arith, c.blocks-blocks.ensures, c.if-blocks-eq0.false) in
    let some = some_row rows b c.requires.none_empty l in
    let long = ap length c.block-len.ensures.value in
    omega (arith, some, long)

pub item-requires : goal.item-requires
item-requires g c =
    let rows = c.args.list.now.rows in
    let n = c.blocks-blocks.result in
    let b = n - 1 in
    let l : b < length rows = omega (arith, c.blocks-blocks.ensures, c.if-blocks-eq0.false) in
    let some = some_row rows b c.requires.none_empty l in
    let long = ap length c.block-len.ensures.value in
    record { block = l; index = omega (arith, some, long) }

pub item-requires-then-len-gt1 : goal.item-requires-then-len-gt1
item-requires-then-len-gt1 g c =
    let l : c.blocks-blocks.result - 1 < length c.args.list.now.rows = omega (arith, c.blocks-blocks.ensures, c.if-blocks-eq0.false) in
    record { block = l; index = omega (arith, c.if-len-gt1.true, ap length c.block-len.ensures.value) }

pub returns-then-is_passed_by-clause-before : goal.returns-then-is_passed_by-clause-before
returns-then-is_passed_by-clause-before g c =
    let rows = c.args.list.now.rows in
    let n = c.blocks-blocks.result in
    let b = n - 1 in
    let l : b < length rows = omega (arith, c.blocks-blocks.ensures, c.if-blocks-eq0.false) in
    let some = some_row rows b c.requires.none_empty l in
    let long = ap length c.block-len.ensures.value in
    let z : b + 1 ≡ n = omega (arith, c.if-blocks-eq0.false) in
    let more = start_more rows b l in
    let all = start_all rows n (omega (arith, c.blocks-blocks.ensures)) in
    let same : start rows (b + 1) ≡ start rows n = ap (start rows) z in
    let m = start rows b + (length c.block-len.result.now - 1) in
    let within : m < length (row_items rows) = omega (arith, more, all, same, some, long) in
    let behind : m + 1 ≡ start rows b + length c.block-len.result.now = omega (arith, some, long) in
    subst (λ (k : ℕ). AllByRecursion (λ x. g.P.Test.is_passed_by c.args.test.now x ≡ true) (take k (row_items rows))) behind (passed (g.P.Test.is_passed_by c.args.test.now) (row_items rows) m c.item.result.now c.is_passed_by.result c.requires.cut within c.item.ensures c.is_passed_by.ensures c.if-is_passed_by.true)

pub returns-then-is_passed_by-clause-after : goal.returns-then-is_passed_by-clause-after
returns-then-is_passed_by-clause-after g c =
    let rows = c.args.list.now.rows in
    let n = c.blocks-blocks.result in
    let b = n - 1 in
    let l : b < length rows = omega (arith, c.blocks-blocks.ensures, c.if-blocks-eq0.false) in
    let some = some_row rows b c.requires.none_empty l in
    let long = ap length c.block-len.ensures.value in
    let z : b + 1 ≡ n = omega (arith, c.if-blocks-eq0.false) in
    let more = start_more rows b l in
    let all = start_all rows n (omega (arith, c.blocks-blocks.ensures)) in
    let same : start rows (b + 1) ≡ start rows n = ap (start rows) z in
    let past : length (row_items rows) ≤ start rows b + length c.block-len.result.now = omega (arith, more, all, same, some, long) in
    subst (λ ys. AllByRecursion (λ x. g.P.Test.is_passed_by c.args.test.now x ≡ false) ys) (sym (drop_all (start rows b + length c.block-len.result.now) (row_items rows) past)) tt

pub returns-then-is_passed_by-2-clause-before : goal.returns-then-is_passed_by-2-clause-before
returns-then-is_passed_by-2-clause-before g c =
    let rows = c.args.list.now.rows in
    let n = c.blocks-blocks.result in
    let b = n - 1 in
    let l : b < length rows = omega (arith, c.blocks-blocks.ensures, c.if-blocks-eq0.false) in
    let some = some_row rows b c.requires.none_empty l in
    let long = ap length c.block-len.ensures.value in
    let z : b + 1 ≡ n = omega (arith, c.if-blocks-eq0.false) in
    let more = start_more rows b l in
    let all = start_all rows n (omega (arith, c.blocks-blocks.ensures)) in
    let same : start rows (b + 1) ≡ start rows n = ap (start rows) z in
    let m = start rows b + (length c.block-len.result.now - 2) in
    let within : m < length (row_items rows) = omega (arith, more, all, same, some, long) in
    let behind : m + 1 ≡ start rows b + (length c.block-len.result.now - 1) = omega (arith, c.if-len-gt1.true) in
    subst (λ (k : ℕ). AllByRecursion (λ x. g.P.Test.is_passed_by c.args.test.now x ≡ true) (take k (row_items rows))) behind (passed (g.P.Test.is_passed_by c.args.test.now) (row_items rows) m c.item-then-len-gt1.result.now c.is_passed_by-then-len-gt1.result c.requires.cut within c.item-then-len-gt1.ensures c.is_passed_by-then-len-gt1.ensures c.if-is_passed_by-2.true)

pub returns-then-is_passed_by-2-clause-after : goal.returns-then-is_passed_by-2-clause-after
returns-then-is_passed_by-2-clause-after g c =
    let rows = c.args.list.now.rows in
    let n = c.blocks-blocks.result in
    let b = n - 1 in
    let l : b < length rows = omega (arith, c.blocks-blocks.ensures, c.if-blocks-eq0.false) in
    let some = some_row rows b c.requires.none_empty l in
    let long = ap length c.block-len.ensures.value in
    let z : b + 1 ≡ n = omega (arith, c.if-blocks-eq0.false) in
    let more = start_more rows b l in
    let all = start_all rows n (omega (arith, c.blocks-blocks.ensures)) in
    let same : start rows (b + 1) ≡ start rows n = ap (start rows) z in
    let m = start rows b + (length c.block-len.result.now - 1) in
    let within : m < length (row_items rows) = omega (arith, more, all, same, some, long) in
    failed (g.P.Test.is_passed_by c.args.test.now) (row_items rows) m c.item.result.now c.is_passed_by.result c.requires.cut within c.item.ensures c.is_passed_by.ensures c.if-is_passed_by.false
