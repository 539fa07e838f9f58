use Rattle.std.proofs.Common.{◌∙◌, ◌<◌, ◌+◌, length, set, ap, arith, vec_capacity}
use Rattle.std.proofs.lemmas.List.{length-set}
use Rattle.mse_base.specs.Rows.{row_items, start, row}
use Rattle.block_list.proofs.RowItems.{joined_set_set}
use Rattle.block_list.proofs.KeptRows.{listed_set}
use Rattle.block_list.proofs.block_list.BlockList.set.Goals as goal

pub invariant_of-self : goal.invariant_of-self
invariant_of-self g c =
    let v = c.self.view_is in
    let rows = c.self.inside.blocks.items in
    let b = c.args.place.block in
    let i = c.args.place.index in
    let l : b < length rows = omega (arith, ap (λ w. length w.rows) v, c.requires.block) in
    let k : i < length (row rows b) = omega (arith, ap (λ w. length (row w.rows b)) v, c.requires.index) in (
      listed_set c.self.inside.half _ c.set_in.new.blocks.items c.self.inside.spare b (set (row rows b) i c.args.x) (vec_capacity c.set_in.new.blocks) c.self.invariant.0 l (length-set (row rows b) i c.args.x) c.set_in.ensures.rows c.set_in.ensures.capacity,
      record { count = omega (arith, c.self.invariant.1.count, ap length (ap row_items c.set_in.ensures.rows ∙ joined_set_set rows b i c.args.x l k), length-set (row_items rows) (start rows b + i) c.args.x); fits = c.self.invariant.1.fits },
    )

pub returns-clause-items : goal.returns-clause-items
returns-clause-items g c =
    let v = c.self.view_is in
    let rows = c.self.inside.blocks.items in
    let b = c.args.place.block in
    let i = c.args.place.index in
    ap row_items c.set_in.ensures.rows ∙ joined_set_set rows b i c.args.x (omega (arith, ap (λ w. length w.rows) v, c.requires.block)) (omega (arith, ap (λ w. length (row w.rows b)) v, c.requires.index)) ∙ ap (λ w. set (row_items w.rows) (start w.rows b + i) c.args.x) v
