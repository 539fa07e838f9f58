use Rattle.std.proofs.Common.{◌≡◌, ◌∙◌, ◌<◌, ◌+◌, ◌-◌, ℕ, length, get_or, sym, subst, ap, arith}
use Rattle.mse_base.specs.Rows.{row_items, start}
use Rattle.block_list.specs.Rows.{ListView}
use Rattle.block_list.specs.BlockPlaces.{rank}
use Rattle.block_list.proofs.RowItems.{start_more, start_all}
use Rattle.block_list.proofs.TestedFronts.{some_row}
use Rattle.track_index.specs.declared.entry.OrderEntry.{OrderEntry}
use Rattle.track_index.proofs.Blocks.{joined_none}
use Rattle.track_index.proofs.order.Order.last_entry.Goals as goal

pub returns-then-n-eq0-clause-none : goal.returns-then-n-eq0-clause-none
returns-then-n-eq0-clause-none c = ap (λ (w : ListView OrderEntry). row_items w.rows) (sym c.self.view_is) ∙ joined_none c.self.inside.list.rows (omega (arith, c.blocks-n.ensures, c.if-n-eq0.true))

pub overflow_sub-index : goal.overflow_sub-index
overflow_sub-index c =
    let rows = c.self.inside.list.rows in
    let n = c.blocks-n.result in
    let l : n - 1 < length rows = omega (arith, c.blocks-n.ensures, c.if-n-eq0.false) in
    omega (arith, some_row rows (n - 1) c.spare-spare.ensures.none_empty l, ap length c.block.ensures.value)

pub item-requires : goal.item-requires
item-requires c =
    let rows = c.self.inside.list.rows in
    let n = c.blocks-n.result in
    let l : n - 1 < length rows = omega (arith, c.blocks-n.ensures, c.if-n-eq0.false) in
    record { block = l; index = omega (arith, some_row rows (n - 1) c.spare-spare.ensures.none_empty l, ap length c.block.ensures.value) }

pub returns-clause-last : goal.returns-clause-last
returns-clause-last c =
    let rows = c.self.inside.list.rows in
    let n = c.blocks-n.result in
    let l : n - 1 < length rows = omega (arith, c.blocks-n.ensures, c.if-n-eq0.false) in
    let z : n - 1 + 1 ≡ n = omega (arith, c.if-n-eq0.false) in
    let some = some_row rows (n - 1) c.spare-spare.ensures.none_empty l in
    let more = start_more rows (n - 1) l in
    let all = start_all rows n (omega (arith, c.blocks-n.ensures)) in
    let same : start rows (n - 1 + 1) ≡ start rows n = ap (start rows) z in
    let x = c.item.result.now in
    let k : rank rows (record { block = n - 1; index = length c.block.result.now - 1 }) ≡ length (row_items rows) - 1 = omega (arith, more, all, same, some, ap length c.block.ensures.value) in
    subst (λ (w : ListView OrderEntry). (0 < length (row_items w.rows)) × (x ≡ get_or (row_items w.rows) (length (row_items w.rows) - 1) x)) c.self.view_is
    (omega (arith, more, all, same, some), c.item.ensures ∙ ap (λ (i : ℕ). get_or (row_items rows) i x) k)
