use Rattle.std.proofs.Common.{◌≡◌, ◌∙◌, ◌+◌, ◌++◌, ℕ, not, length, take, drop, filter, ap, sym, subst, arith, None, vec_capacity}
use Rattle.mse_base.specs.Rows.{row_items}
use Rattle.block_list.specs.Rows.{ListView}
use Rattle.block_list.specs.BlockPlaces.{rank, IsPlace, IsItemPlace}
use Rattle.track_index.specs.declared.entry.OrderEntry.{OrderEntry}
use Rattle.track_index.specs.Runs.{is_serial_from, IsLastBetween}
use Rattle.track_index.proofs.BlockEnds.{length_running_ends}
use Rattle.track_index.proofs.Blocks.{ready, rank_within}
use Rattle.track_index.proofs.Runs.{run_taken, run_bounds}
use Rattle.track_index.proofs.order.Order.take_out_run.Goals as goal

pub last_between-requires : goal.last_between-requires
last_between-requires c = record { place = c.place_at-from.ensures.place; some = c.requires.some }

pub block-few-requires : goal.block-few-requires
block-few-requires c = (subst (λ (w : ListView OrderEntry). IsItemPlace w.rows c.in-Some.last) (sym c.self.view_is) c.in-Some.ensures.place).block

pub overflow_add-to : goal.overflow_add-to
overflow_add-to c =
    let h = subst (λ (w : ListView OrderEntry). IsItemPlace w.rows c.in-Some.last) (sym c.self.view_is) c.in-Some.ensures.place in
    omega (arith, h.index, ap length c.block-few.ensures.value, c.block-few.ensures.at_most_128)

pub remove_range-requires : goal.remove_range-requires
remove_range-requires c =
    let h = subst (λ (w : ListView OrderEntry). IsLastBetween c.args.key.now.serial c.args.high w.rows c.place_at-from.result c.args.count c.in-Some.last) (sym c.self.view_is) c.in-Some.ensures in
    let p = subst (λ (w : ListView OrderEntry). IsPlace w.rows c.place_at-from.result) (sym c.self.view_is) c.place_at-from.ensures.place in
    run_bounds c.args.key.now.serial c.args.high c.self.inside.list.rows c.place_at-from.result c.args.count c.in-Some.last p c.requires.some h

pub refresh-requires : goal.refresh-requires
refresh-requires c =
    let ts = c.self.inside.tops.items in
    let old = c.self.inside.list.rows in
    let new = c.remove_range.new.self.rows in
    let h = subst (λ (w : ListView OrderEntry). IsLastBetween c.args.key.now.serial c.args.high w.rows c.place_at-from.result c.args.count c.in-Some.last) (sym c.self.view_is) c.in-Some.ensures in
    let p = subst (λ (w : ListView OrderEntry). IsPlace w.rows c.place_at-from.result) (sym c.self.view_is) c.place_at-from.ensures.place in
    let q = run_bounds c.args.key.now.serial c.args.high old c.place_at-from.result c.args.count c.in-Some.last p c.requires.some h in
    let n = ap length c.self.invariant ∙ length_running_ends None old in
    let few = c.remove_range.ensures.no_more_blocks in
    ready ts old new c.place_at-from.result.block (c.in-Some.last.block + 1) (vec_capacity c.self.inside.tops) c.self.invariant (omega (arith, q.in_order)) (omega (arith, q.to)) (omega (arith, few)) (omega (arith, c.remove_range.ensures.at_most_touched_gone)) (omega (arith, few, n, c.self.inside.tops.ok.0, c.self.inside.tops.ok.1)) c.remove_range.ensures.front c.remove_range.ensures.rest

pub returns-in-Some-clause-items : goal.returns-in-Some-clause-items
returns-in-Some-clause-items c = λ _.
    let rows = c.self.inside.list.rows in
    let os = row_items rows in
    let h = subst (λ (w : ListView OrderEntry). IsLastBetween c.args.key.now.serial c.args.high w.rows c.place_at-from.result c.args.count c.in-Some.last) (sym c.self.view_is) c.in-Some.ensures in
    let i = rank rows c.place_at-from.result in
    let k = rank_within rows c.in-Some.last h.place.block h.place.index in
    let z : rank rows (record { block = c.in-Some.last.block; index = c.in-Some.last.index + 1 }) ≡ i + c.args.count = omega (arith, h.count) in
    let many = ap (λ (w : ListView OrderEntry). length (filter (is_serial_from c.args.key.now.serial c.args.high) (row_items w.rows))) c.self.view_is ∙ c.requires.count in
    c.remove_range.ensures.items ∙ ap (λ (j : ℕ). take i os ++ drop j os) z
    ∙ run_taken c.args.key.now.serial c.args.high os i c.args.count (omega (arith, h.count, k)) h.between many
    ∙ ap (λ (w : ListView OrderEntry). filter (λ o. not (is_serial_from c.args.key.now.serial c.args.high o)) (row_items w.rows)) c.self.view_is

pub returns-in-Some-clause-no_room_lost : goal.returns-in-Some-clause-no_room_lost
returns-in-Some-clause-no_room_lost c =
    let old = c.self.inside.list.rows in
    let new = c.remove_range.new.self.rows in
    let n = ap length c.self.invariant ∙ length_running_ends None old in
    let m = ap length c.refresh.ensures.items ∙ length_running_ends None new in
    omega (arith, ap (λ w. w.spare) c.self.view_is, c.remove_range.ensures.spare, c.refresh.ensures.capacity, n, m, c.remove_range.ensures.no_more_blocks, c.refresh.new.tops.ok.0, c.self.inside.tops.ok.0)
