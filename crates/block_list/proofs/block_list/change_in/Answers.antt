use Rattle.std.proofs.Common.{◌∙◌, set, get_or, ap}
use Rattle.block_list.proofs.RowItems.{row_is}
use Rattle.block_list.proofs.block_list.change_in.Goals as goal

pub change-requires : goal.change-requires
change-requires g c = rw (row_is c.args.blocks.now.items c.args.b c.index_mut.result.now c.requires.block c.index_mut.ensures.value) c.requires.within

pub returns-clause-rows : goal.returns-clause-rows
returns-clause-rows g c = λ d. ap (set c.args.blocks.now.items c.args.b) (c.change.ensures d ∙ ap (λ r. set r c.args.i (g.C.Change.after c.args.change.now (get_or r c.args.i d))) (row_is c.args.blocks.now.items c.args.b c.index_mut.result.now c.requires.block c.index_mut.ensures.value))
