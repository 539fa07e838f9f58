use Rattle.std.proofs.Common.{◌∙◌, ◌+◌, length, ap, subst, arith, vec_capacity, insert}
use Rattle.mse_base.specs.Rows.{row_items, start, row, AreEmpty}
use Rattle.block_list.proofs.RowItems.{IsAddedByCut, short_row, joined_set_insert, inserted, empty_last}
use Rattle.block_list.proofs.KeptRows.{listed_put, listed_apart}
use Rattle.block_list.proofs.block_list.BlockList.insert.Goals as goal

pub invariant_of-self : goal.invariant_of-self
invariant_of-self g c =
    let v = c.self.view_is in
    (listed_put c.self.inside.half _ c.put_in.new.blocks.items c.self.inside.spare c.args.place.block c.args.place.index (vec_capacity c.put_in.new.blocks) c.args.x c.self.invariant.0 (omega (arith, ap (λ w. w.spare) v, c.requires.room)) (omega (arith, ap (λ w. length w.rows) v, c.requires.place.block)) (omega (arith, ap (λ w. length (row w.rows c.args.place.block)) v, c.requires.place.index)) (omega (arith, c.len_at-len.ensures.value)) c.put_in.ensures.rows c.put_in.ensures.capacity, record { count = omega (arith, c.self.invariant.1.count, c.self.invariant.1.fits, ap length (ap row_items c.put_in.ensures.rows ∙ joined_set_insert c.self.inside.blocks.items c.args.place.block c.args.place.index c.args.x (omega (arith, ap (λ w. length w.rows) v, c.requires.place.block)) (omega (arith, ap (λ w. length (row w.rows c.args.place.block)) v, c.requires.place.index))), inserted c.self.inside.blocks.items c.args.place.block c.args.place.index c.args.x (omega (arith, ap (λ w. length w.rows) v, c.requires.place.block)) (omega (arith, ap (λ w. length (row w.rows c.args.place.block)) v, c.requires.place.index))); fits = omega (arith, c.self.invariant.1.count, c.self.invariant.1.fits, ap (λ w. w.spare) v, c.requires.room) })

pub returns-then-len-self-clause-items : goal.returns-then-len-self-clause-items
returns-then-len-self-clause-items g c =
    let v = c.self.view_is in
    ap row_items c.put_in.ensures.rows ∙ joined_set_insert c.self.inside.blocks.items c.args.place.block c.args.place.index c.args.x (omega (arith, ap (λ w. length w.rows) v, c.requires.place.block)) (omega (arith, ap (λ w. length (row w.rows c.args.place.block)) v, c.requires.place.index)) ∙ ap (λ w. insert (row_items w.rows) (start w.rows c.args.place.block + c.args.place.index) c.args.x) v

pub put_apart-requires-clause-empty : goal.put_apart-requires-clause-empty
put_apart-requires-clause-empty g c = (empty_last c.take_last-right.new.self.items c.take_last-right.result (subst AreEmpty c.take_last-right.ensures.items c.self.invariant.0.empty)).1

pub invariant_of-self-2 : goal.invariant_of-self-2
invariant_of-self-2 g c =
    let rows = c.self.inside.blocks.items in
    let k = start rows c.args.place.block + c.args.place.index in
    let a : IsAddedByCut c.self.inside.half rows c.put_apart.new.blocks.items (record { row = c.args.place.block; place = k; item = c.args.x }) = record { front = c.put_apart.ensures.front; rest = c.put_apart.ensures.rest; items = c.put_apart.ensures.items; short = c.put_apart.ensures.short; used_room = c.put_apart.ensures.used_room; len = c.put_apart.ensures.len } in
    (listed_apart c.self.inside.half _ (record { rows = c.put_apart.new.blocks.items; pool = c.take_last-right.new.self.items; block_capacity = vec_capacity c.put_apart.new.blocks; pool_capacity = vec_capacity c.take_last-right.new.self }) c.take_last-right.result c.self.inside.spare _ c.self.invariant.0 (omega (arith, ap (λ w. w.spare) c.self.view_is, c.requires.room)) c.take_last-right.ensures.items a c.put_apart.ensures.capacity c.take_last-right.ensures.capacity, record { count = omega (arith, c.self.invariant.1.count, c.self.invariant.1.fits, ap length c.put_apart.ensures.items, inserted c.self.inside.blocks.items c.args.place.block c.args.place.index c.args.x (omega (arith, ap (λ w. length w.rows) c.self.view_is, c.requires.place.block)) (omega (arith, ap (λ w. length (row w.rows c.args.place.block)) c.self.view_is, c.requires.place.index))); fits = omega (arith, c.self.invariant.1.count, c.self.invariant.1.fits, ap (λ w. w.spare) c.self.view_is, c.requires.room) })

pub put_apart-requires-clause-full : goal.put_apart-requires-clause-full
put_apart-requires-clause-full g c =
    let s = short_row c.self.inside.half c.self.inside.blocks.items c.args.place.block c.self.invariant.0.short (omega (arith, ap (λ w. length w.rows) c.self.view_is, c.requires.place.block)) in
    omega (arith, s.1, c.len_at-len.ensures.value)
