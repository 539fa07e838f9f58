use Rattle.std.proofs.Common.{◌∙◌, set, ap}
use Rattle.block_list.proofs.RowItems.{row_is}
use Rattle.block_list.proofs.block_list.set_in.Goals as goal

pub set-requires : goal.set-requires
set-requires g c = rw (row_is c.args.blocks.now.items c.args.b c.index_mut.result.now c.requires.block c.index_mut.ensures.value) c.requires.within

pub returns-clause-rows : goal.returns-clause-rows
returns-clause-rows g c = ap (set c.args.blocks.now.items c.args.b) (c.set.ensures ∙ ap (λ r. set r c.args.i c.args.x) (row_is c.args.blocks.now.items c.args.b c.index_mut.result.now c.requires.block c.index_mut.ensures.value))
