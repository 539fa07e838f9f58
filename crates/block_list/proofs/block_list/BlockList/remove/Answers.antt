use Rattle.std.proofs.Common.{◌∙◌, ◌+◌, ◌<◌, length, ap, arith, vec_capacity, remove, get_or}
use Rattle.mse_base.specs.Rows.{row_items, start, row}
use Rattle.block_list.proofs.RowItems.{joined_set_remove, removed, joined_one, row_is, one_gone}
use Rattle.block_list.proofs.KeptRows.{listed_take, listed_less}
use Rattle.block_list.proofs.block_list.BlockList.remove.Goals as goal

pub invariant_of-self : goal.invariant_of-self
invariant_of-self g c =
    let v = c.self.view_is in
    (listed_take c.self.inside.half _ c.take_from.new.blocks.items c.self.inside.spare c.args.place.block c.args.place.index (vec_capacity c.take_from.new.blocks) c.self.invariant.0 (omega (arith, ap (λ w. length w.rows) v, c.requires.block)) (omega (arith, ap (λ w. length (row w.rows c.args.place.block)) v, c.requires.index)) (omega (arith, c.len_at.ensures.value)) c.take_from.ensures.rows c.take_from.ensures.capacity, record { count = omega (arith, c.self.invariant.1.count, c.self.invariant.1.fits, ap length (ap row_items c.take_from.ensures.rows ∙ joined_set_remove c.self.inside.blocks.items c.args.place.block c.args.place.index (omega (arith, ap (λ w. length w.rows) c.self.view_is, c.requires.block)) (omega (arith, ap (λ w. length (row w.rows c.args.place.block)) c.self.view_is, c.requires.index))), removed c.self.inside.blocks.items c.args.place.block c.args.place.index (omega (arith, ap (λ w. length w.rows) c.self.view_is, c.requires.block)) (omega (arith, ap (λ w. length (row w.rows c.args.place.block)) c.self.view_is, c.requires.index))); fits = omega (arith, c.self.invariant.1.count, c.self.invariant.1.fits) })

pub returns-then-len_at-gt1-clause-items : goal.returns-then-len_at-gt1-clause-items
returns-then-len_at-gt1-clause-items g c =
    let v = c.self.view_is in
    ap row_items c.take_from.ensures.rows ∙ joined_set_remove c.self.inside.blocks.items c.args.place.block c.args.place.index (omega (arith, ap (λ w. length w.rows) v, c.requires.block)) (omega (arith, ap (λ w. length (row w.rows c.args.place.block)) v, c.requires.index)) ∙ ap (λ w. remove (row_items w.rows) (start w.rows c.args.place.block + c.args.place.index)) v

pub invariant_of-self-2 : goal.invariant_of-self-2
invariant_of-self-2 g c =
    let v = c.self.view_is in
    let rows = c.self.inside.blocks.items in
    let b = c.args.place.block in
    let r = row_is rows b c.remove-block.result (omega (arith, ap (λ w. length w.rows) v, c.requires.block)) c.remove-block.ensures.value in
    let e = c.remove-x.ensures.items ∙ ap (λ q. remove q c.args.place.index) r ∙ one_gone (row rows b) c.args.place.index (omega (arith, c.len_at.ensures.value)) (omega (arith, ap (λ w. length (row w.rows c.args.place.block)) v, c.requires.index)) in
    (listed_less c.self.inside.half _ (record { rows = c.remove-block.new.self.items; pool = c.push_reserved.new.self.items; block_capacity = vec_capacity c.remove-block.new.self; pool_capacity = vec_capacity c.push_reserved.new.self }) c.remove-x.new.self c.self.inside.spare b c.self.invariant.0 (omega (arith, ap (λ w. length w.rows) v, c.requires.block)) c.remove-block.ensures.items c.push_reserved.ensures.items e c.remove-block.ensures.capacity c.push_reserved.ensures.capacity, record { count = omega (arith, c.self.invariant.1.count, c.self.invariant.1.fits, ap length (ap row_items c.remove-block.ensures.items ∙ joined_one rows b c.args.place.index (omega (arith, ap (λ w. length w.rows) c.self.view_is, c.requires.block)) (omega (arith, c.len_at.ensures.value, ap (λ w. length (row w.rows c.args.place.block)) c.self.view_is, c.requires.index)) (omega (arith, c.len_at.ensures.value, ap (λ w. length (row w.rows c.args.place.block)) c.self.view_is, c.requires.index))), removed rows b c.args.place.index (omega (arith, ap (λ w. length w.rows) c.self.view_is, c.requires.block)) (omega (arith, ap (λ w. length (row w.rows c.args.place.block)) c.self.view_is, c.requires.index))); fits = omega (arith, c.self.invariant.1.count, c.self.invariant.1.fits) })

pub returns-clause-value : goal.returns-clause-value
returns-clause-value g c =
    let v = c.self.view_is in
    let rows = c.self.inside.blocks.items in
    let b = c.args.place.block in
    c.remove-x.ensures.value ∙ ap (λ q. get_or q c.args.place.index c.remove-x.result) (row_is rows b c.remove-block.result (omega (arith, ap (λ w. length w.rows) v, c.requires.block)) c.remove-block.ensures.value) ∙ ap (λ w. get_or (row w.rows b) c.args.place.index c.remove-x.result) v

pub returns-clause-items : goal.returns-clause-items
returns-clause-items g c =
    let v = c.self.view_is in
    let rows = c.self.inside.blocks.items in
    let b = c.args.place.block in
    let i : c.args.place.index < length (row rows b) = omega (arith, ap (λ w. length (row w.rows c.args.place.block)) v, c.requires.index) in
    ap row_items c.remove-block.ensures.items ∙ joined_one rows b c.args.place.index (omega (arith, ap (λ w. length w.rows) v, c.requires.block)) (omega (arith, c.len_at.ensures.value)) (omega (arith, c.len_at.ensures.value)) ∙ ap (λ w. remove (row_items w.rows) (start w.rows b + c.args.place.index)) v

pub overflow_sub-self : goal.overflow_sub-self
overflow_sub-self g c = omega (arith, c.self.invariant.1.count, removed c.self.inside.blocks.items c.args.place.block c.args.place.index (omega (arith, ap (λ w. length w.rows) c.self.view_is, c.requires.block)) (omega (arith, ap (λ w. length (row w.rows c.args.place.block)) c.self.view_is, c.requires.index)))
