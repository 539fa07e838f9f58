use Rattle.std.proofs.Common.{subst, sym, ◌∙◌, ◌+◌, length, filter, not, ap, arith, None, vec_capacity}
use Rattle.mse_base.specs.Rows.{row_items}
use Rattle.block_list.specs.Rows.{ListView}
use Rattle.block_list.specs.BlockPlaces.{rank}
use Rattle.track_index.specs.declared.entry.OrderEntry.{OrderEntry}
use Rattle.track_index.specs.Keyed.{has_entry_serial, HasEntry}
use Rattle.track_index.proofs.BlockEnds.{length_running_ends}
use Rattle.track_index.proofs.Keys.{taken_out}
use Rattle.track_index.proofs.Blocks.{ready}
use Rattle.track_index.proofs.order.Order.take_out.Goals as goal

pub place_of-place-requires : goal.place_of-place-requires
place_of-place-requires c = subst (λ (w : ListView OrderEntry). HasEntry c.args.pts c.args.serial (row_items w.rows)) (sym c.self.view_is) c.requires

pub refresh-requires : goal.refresh-requires
refresh-requires c =
    let ts = c.self.inside.tops.items in
    let old = c.self.inside.list.rows in
    let new = c.remove.new.self.rows in
    let b = c.place_of-place.result.block in
    let n = ap length c.self.invariant ∙ length_running_ends None old in
    let few0 = c.remove.ensures.one_block_apart.0 in
    let few1 = c.remove.ensures.one_block_apart.1 in
    ready ts old new b (b + 1) (vec_capacity c.self.inside.tops) c.self.invariant (omega arith) (omega (arith, c.place_of-place.ensures.place.block)) (omega (arith, few0)) (omega (arith, few1)) (omega (arith, few0, n, c.self.inside.tops.ok.0, c.self.inside.tops.ok.1)) c.remove.ensures.front c.remove.ensures.rest

pub returns-clause-items : goal.returns-clause-items
returns-clause-items c =
    let os = row_items c.self.inside.list.rows in
    c.remove.ensures.items ∙ taken_out c.args.serial os (rank c.self.inside.list.rows c.place_of-place.result) c.place_of-place.ensures.names ∙ ap (λ w. filter (λ (o : OrderEntry). not (has_entry_serial c.args.serial o)) (row_items w.rows)) c.self.view_is

pub returns-clause-no_room_lost : goal.returns-clause-no_room_lost
returns-clause-no_room_lost c =
    let ts = c.self.inside.tops.items in
    let old = c.self.inside.list.rows in
    let new = c.remove.new.self.rows in
    let b = c.place_of-place.result.block in
    let n = ap length c.self.invariant ∙ length_running_ends None old in
    let m = ap length c.refresh.ensures.items ∙ length_running_ends None new in
    let few0 = c.remove.ensures.one_block_apart.0 in
    omega (arith, ap (λ w. w.spare) c.self.view_is, c.remove.ensures.spare, c.refresh.ensures.capacity, n, m, few0, c.refresh.new.tops.ok.0, c.self.inside.tops.ok.0)
