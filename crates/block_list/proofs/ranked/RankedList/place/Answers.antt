use Rattle.std.proofs.Common.{◌≡◌, ◌+◌, ◌<◌, length, ap, arith}
use Rattle.mse_base.specs.Rows.{start}
use Rattle.block_list.proofs.RowStarts.{item_in}
use Rattle.block_list.proofs.ranked.RankedList.place.Goals as goal

pub returns-clause-item : goal.returns-clause-item
returns-clause-item g c =
    let rows = c.args.self.now.rows in
    let inv = c.search.invariant in
    let e : c.search.high ≡ c.search.low + 1 = omega (arith, c.search-test.false, inv.in_order) in
    let l : c.search.low < length rows = omega (arith, inv.in_order, inv.within) in
    let in_row = item_in rows c.search.low c.args.k l c.requires (λ m. omega (arith, inv.next (omega arith), ap (start rows) e)) in
    record { block = l; index = omega (arith, c.start-2.ensures, inv.by, in_row) }
