use Rattle.std.proofs.Common.{subst, ◌≡◌, ◌∙◌, ◌+◌, ◌-◌, length, map, drop, ap, sym, arith, None, vec_capacity, ℕ}
use Rattle.mse_base.specs.Rows.{row_items}
use Rattle.block_list.specs.Rows.{ListView}
use Rattle.block_list.specs.BlockPlaces.{rank}
use Rattle.track_index.specs.declared.entry.OrderEntry.{OrderEntry}
use Rattle.track_index.specs.Order.{with_entry_dur}
use Rattle.track_index.specs.Keyed.{HasEntry}
use Rattle.track_index.proofs.BlockEnds.{length_running_ends}
use Rattle.track_index.proofs.Keys.{shortened_at}
use Rattle.track_index.proofs.Blocks.{ready}
use Rattle.track_index.proofs.order.Order.shorten.Goals as goal

pub place_of-place-requires : goal.place_of-place-requires
place_of-place-requires c = subst (λ (w : ListView OrderEntry). HasEntry c.args.pts c.args.serial (row_items w.rows)) (sym c.self.view_is) c.requires

pub refresh-requires : goal.refresh-requires
refresh-requires c =
    let ts = c.self.inside.tops.items in
    let old = c.self.inside.list.rows in
    let new = c.set.new.self.rows in
    let b = c.place_of-place.result.block in
    let n = ap length c.self.invariant ∙ length_running_ends None old in
    let k : b + 1 ≡ (b + 1 + length new) - length old = omega (arith, c.set.ensures.len) in
    ready ts old new b (b + 1) (vec_capacity c.self.inside.tops) c.self.invariant (omega arith) (omega (arith, c.place_of-place.ensures.place.block)) (omega (arith, c.set.ensures.len)) (omega (arith, c.set.ensures.len)) (omega (arith, c.set.ensures.len, n, c.self.inside.tops.ok.0, c.self.inside.tops.ok.1)) c.set.ensures.front (ap (λ (i : ℕ). drop i new) (sym k) ∙ c.set.ensures.rest)

pub returns-clause-items : goal.returns-clause-items
returns-clause-items c =
    let os = row_items c.self.inside.list.rows in
    c.set.ensures.items ∙ shortened_at c.args.serial c.args.dur os (rank c.self.inside.list.rows c.place_of-place.result) c.item-entry.result.now c.place_of-place.ensures.names c.item-entry.ensures ∙ ap (λ w. map (with_entry_dur c.args.serial c.args.dur) (row_items w.rows)) c.self.view_is

pub returns-clause-no_room_lost : goal.returns-clause-no_room_lost
returns-clause-no_room_lost c =
    let ts = c.self.inside.tops.items in
    let old = c.self.inside.list.rows in
    let new = c.set.new.self.rows in
    let b = c.place_of-place.result.block in
    let n = ap length c.self.invariant ∙ length_running_ends None old in
    let m = ap length c.refresh.ensures.items ∙ length_running_ends None new in
    omega (arith, ap (λ w. w.spare) c.self.view_is, c.set.ensures.spare, c.refresh.ensures.capacity, n, m, c.set.ensures.len, c.refresh.new.tops.ok.0, c.self.inside.tops.ok.0)
