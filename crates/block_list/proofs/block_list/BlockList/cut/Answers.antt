use Rattle.std.proofs.Common.{length, ap, arith, vec_capacity}
use Rattle.mse_base.specs.Rows.{row}
use Rattle.block_list.proofs.RemovedStretch.{cut_count, row_count}
use Rattle.block_list.proofs.KeptRows.{listed_cut}
use Rattle.block_list.proofs.block_list.BlockList.cut.Goals as goal

pub invariant_of-self : goal.invariant_of-self
invariant_of-self g c =
    let v = c.self.view_is in
    (listed_cut c.self.inside.half _ c.cut_in.new.blocks.items c.self.inside.spare c.args.b c.args.from c.args.to (vec_capacity c.cut_in.new.blocks) c.self.invariant.0 (omega (arith, ap (λ w. length w.rows) v, c.requires.block)) c.requires.in_order (omega (arith, ap (λ w. length (row w.rows c.args.b)) v, c.requires.within)) (omega (arith, ap (λ w. length (row w.rows c.args.b)) v, c.requires.some)) c.cut_in.ensures.rows c.cut_in.ensures.capacity, record { count = omega (arith, c.self.invariant.1.count, c.self.invariant.1.fits, cut_count c.self.inside.blocks.items c.cut_in.new.blocks.items c.args.b c.args.from c.args.to (omega (arith, ap (λ w. length w.rows) c.self.view_is, c.requires.block)) c.requires.in_order (omega (arith, ap (λ w. length (row w.rows c.args.b)) c.self.view_is, c.requires.within)) c.cut_in.ensures.rows); fits = omega (arith, c.self.invariant.1.count, c.self.invariant.1.fits) })

pub overflow_sub-self-2 : goal.overflow_sub-self-2
overflow_sub-self-2 g c = omega (arith, c.self.invariant.1.count, row_count c.self.inside.blocks.items c.args.b (omega (arith, ap (λ w. length w.rows) c.self.view_is, c.requires.block)), ap (λ w. length (row w.rows c.args.b)) c.self.view_is, c.requires.within)
