use Rattle.std.proofs.Common.{◌∙◌, ◌+◌, ◌<◌, ◌++◌, ◌∷◌, [], length, ap, subst, sym, arith, None, vec_capacity, ◌+ℤ◌, pos, ℤ}
use Rattle.mse_base.specs.Rows.{row_items}
use Rattle.block_list.specs.BlockPlaces.{rank}
use Rattle.track_index.specs.declared.key.Key.{Key}
use Rattle.track_index.specs.Order.{entries_with}
use Rattle.track_index.specs.Keyed.{IsKeyed}
use Rattle.track_index.proofs.BlockEnds.{length_running_ends}
use Rattle.track_index.proofs.Keys.{cut_keyed, put_with}
use Rattle.track_index.proofs.Blocks.{ready, first_ready, joined_none, top_with}
use Rattle.track_index.proofs.order.Order.put.Goals as goal

pub refresh-requires : goal.refresh-requires
refresh-requires c =
    let ts = c.self.inside.tops.items in
    let old = c.self.inside.list.rows in
    let new = c.push.new.self.rows in
    let few1 = c.push.ensures.one_block_apart.1 in
    first_ready ts old new (vec_capacity c.self.inside.tops) c.self.invariant (omega (arith, c.blocks-2.ensures, c.if-blocks-eq0.true)) (omega (arith, few1, c.blocks-2.ensures, c.if-blocks-eq0.true)) (omega (arith, few1, c.blocks-2.ensures, c.if-blocks-eq0.true, ap (λ w. w.spare) c.self.view_is, c.requires.room))

pub returns-then-blocks-eq0-clause-items : goal.returns-then-blocks-eq0-clause-items
returns-then-blocks-eq0-clause-items c =
    let none = joined_none c.self.inside.list.rows (omega (arith, c.blocks-2.ensures, c.if-blocks-eq0.true)) in
    c.push.ensures.items ∙ ap (λ os. os ++ c.args.entry ∷ []) none ∙ ap (entries_with c.args.entry) (sym none) ∙ ap (λ w. entries_with c.args.entry (row_items w.rows)) c.self.view_is

pub returns-then-blocks-eq0-clause-spare : goal.returns-then-blocks-eq0-clause-spare
returns-then-blocks-eq0-clause-spare c =
    let old = c.self.inside.list.rows in
    let new = c.push.new.self.rows in
    let n = ap length c.self.invariant ∙ length_running_ends None old in
    let m = ap length c.refresh.ensures.items ∙ length_running_ends None new in
    let few1 = c.push.ensures.one_block_apart.1 in
    omega (arith, ap (λ w. w.spare) c.self.view_is, c.push.ensures.spare, c.refresh.ensures.capacity, n, m, few1, c.refresh.new.tops.ok.0, c.self.inside.tops.ok.0)

pub search-place-requires : goal.search-place-requires
search-place-requires c = cut_keyed _ (row_items c.self.inside.list.rows) (subst (λ w. IsKeyed (row_items w.rows)) (sym c.self.view_is) c.requires.keyed)

pub refresh_with-requires : goal.refresh_with-requires
refresh_with-requires c =
    let ts = c.self.inside.tops.items in
    let old = c.self.inside.list.rows in
    let new = c.insert.new.self.rows in
    let b = c.search-place.result.block in
    let n = ap length c.self.invariant ∙ length_running_ends None old in
    let few0 = c.insert.ensures.one_block_apart.0 in
    let few1 = c.insert.ensures.one_block_apart.1 in
    let l : b < length old = c.search-place.ensures.block (omega (arith, c.blocks-2.ensures, c.if-blocks-eq0.false)) in
    let r = ready ts old new b (b + 1) (vec_capacity c.self.inside.tops) c.self.invariant (omega arith) (omega (arith, l)) few1 (omega (arith, few0)) (omega (arith, few1, n, ap (λ w. w.spare) c.self.view_is, c.requires.room, c.self.inside.tops.ok.0)) c.insert.ensures.front c.insert.ensures.rest in
    record {
      mendable = r;
      last = λ e. top_with ts old new b (rank old c.search-place.result) c.args.entry c.end_mark-end.result c.self.invariant (omega (arith, e, n)) c.end_mark-end.ensures c.insert.ensures.items;
    }

pub returns-clause-items : goal.returns-clause-items
returns-clause-items c =
    let os = row_items c.self.inside.list.rows in
    let k : Key = record { mark = c.args.entry.pts +ℤ pos 1; serial = 0 } in
    let e = c.at-key.ensures ∙ ap (λ (m : ℤ). record { mark = m; serial = 0 }) c.after.ensures in
    c.insert.ensures.items ∙ put_with c.args.entry os (rank c.self.inside.list.rows c.search-place.result) c.at-key.result e c.search-place.ensures.before c.search-place.ensures.after ∙ ap (λ w. entries_with c.args.entry (row_items w.rows)) c.self.view_is

pub returns-clause-spare : goal.returns-clause-spare
returns-clause-spare c =
    let ts = c.self.inside.tops.items in
    let old = c.self.inside.list.rows in
    let new = c.insert.new.self.rows in
    let b = c.search-place.result.block in
    let n = ap length c.self.invariant ∙ length_running_ends None old in
    let m = ap length c.refresh_with.ensures.items ∙ length_running_ends None new in
    let few1 = c.insert.ensures.one_block_apart.1 in
    omega (arith, ap (λ w. w.spare) c.self.view_is, c.insert.ensures.spare, c.refresh_with.ensures.capacity, n, m, few1, c.refresh_with.new.tops.ok.0, c.self.inside.tops.ok.0)
