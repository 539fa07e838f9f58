use Rattle.std.proofs.Common.{append-nil, length-append, ◌∙◌, ◌+◌, ◌++◌, ◌∷◌, [], length, ap, subst, arith, vec_capacity, insert}
use Rattle.mse_base.specs.Rows.{row_items, start, AreEmpty}
use Rattle.block_list.proofs.RowItems.{joined_set_insert, inserted, joined_append, empty_last, insert_last}
use Rattle.block_list.proofs.KeptRows.{listed_put, listed_push}
use Rattle.block_list.proofs.block_list.BlockList.push.Goals as goal

pub invariant_of-self : goal.invariant_of-self
invariant_of-self g c =
    let s = c.in-Some.place in
    let h = c.in-Some.ensures.room in
    (listed_put c.self.inside.half _ c.put_in.new.blocks.items c.self.inside.spare s.block s.index (vec_capacity c.put_in.new.blocks) c.args.x c.self.invariant.0 (omega (arith, ap (λ w. w.spare) c.self.view_is, c.requires)) (omega (arith, h.0)) (omega (arith, h.1.0)) (omega (arith, h.1.0, h.1.1)) c.put_in.ensures.rows c.put_in.ensures.capacity, record { count = omega (arith, c.self.invariant.1.count, c.self.invariant.1.fits, ap length (ap row_items c.put_in.ensures.rows ∙ joined_set_insert c.self.inside.blocks.items s.block s.index c.args.x (omega (arith, h.0)) (omega (arith, h.1.0))), inserted c.self.inside.blocks.items s.block s.index c.args.x (omega (arith, h.0)) (omega (arith, h.1.0))); fits = omega (arith, c.self.invariant.1.count, c.self.invariant.1.fits, ap (λ w. w.spare) c.self.view_is, c.requires) })

pub returns-in-Some-clause-items : goal.returns-in-Some-clause-items
returns-in-Some-clause-items g c =
    let rows = c.self.inside.blocks.items in
    let s = c.in-Some.place in
    let h = c.in-Some.ensures.room in
    ap row_items c.put_in.ensures.rows ∙ joined_set_insert rows s.block s.index c.args.x (omega (arith, h.0)) (omega (arith, h.1.0)) ∙ ap (λ n. insert (row_items rows) (start rows s.block + n) c.args.x) h.1.0 ∙ insert_last rows s.block c.args.x h.0 ∙ ap (λ w. row_items w.rows ++ c.args.x ∷ []) c.self.view_is

pub push-requires : goal.push-requires
push-requires g c = rw (empty_last c.take_last-block.new.self.items c.take_last-block.result (subst AreEmpty c.take_last-block.ensures.items c.self.invariant.0.empty)).1 (omega arith)

pub invariant_of-self-in-None : goal.invariant_of-self-in-None
invariant_of-self-in-None g c =
    let e = (empty_last c.take_last-block.new.self.items c.take_last-block.result (subst AreEmpty c.take_last-block.ensures.items c.self.invariant.0.empty)).1 in
    let y = c.push.ensures ∙ ap (λ r. r ++ c.args.x ∷ []) e in
    (listed_push c.self.inside.half _ (record { rows = c.push_reserved.new.self.items; pool = c.take_last-block.new.self.items; block_capacity = vec_capacity c.push_reserved.new.self; pool_capacity = vec_capacity c.take_last-block.new.self }) c.take_last-block.result c.push.new.self c.self.inside.spare c.self.invariant.0 (omega (arith, ap (λ w. w.spare) c.self.view_is, c.requires)) c.take_last-block.ensures.items c.push_reserved.ensures.items (ap length y) c.in-None.ensures.full c.push_reserved.ensures.capacity c.take_last-block.ensures.capacity, record { count = omega (arith, c.self.invariant.1.count, c.self.invariant.1.fits, ap length (ap row_items c.push_reserved.ensures.items ∙ joined_append c.self.inside.blocks.items (c.push.new.self ∷ [])), length-append (row_items c.self.inside.blocks.items) (row_items (c.push.new.self ∷ [])), ap length (append-nil c.push.new.self), ap length y); fits = omega (arith, c.self.invariant.1.count, c.self.invariant.1.fits, ap (λ w. w.spare) c.self.view_is, c.requires) })

pub returns-in-None-clause-items : goal.returns-in-None-clause-items
returns-in-None-clause-items g c =
    let rows = c.self.inside.blocks.items in
    let e = (empty_last c.take_last-block.new.self.items c.take_last-block.result (subst AreEmpty c.take_last-block.ensures.items c.self.invariant.0.empty)).1 in
    let y = c.push.ensures ∙ ap (λ r. r ++ c.args.x ∷ []) e in
    ap row_items c.push_reserved.ensures.items ∙ joined_append rows (c.push.new.self ∷ []) ∙ ap (λ r. row_items rows ++ (r ++ [])) y ∙ ap (λ w. row_items w.rows ++ c.args.x ∷ []) c.self.view_is
