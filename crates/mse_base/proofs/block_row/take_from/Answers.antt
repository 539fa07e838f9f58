use Rattle.std.proofs.Common.{◌∙◌, ap, set, remove}
use Rattle.mse_base.proofs.InRows.{row_is}
use Rattle.mse_base.proofs.block_row.take_from.Goals as goal

pub remove-requires : goal.remove-requires
remove-requires c = rw (row_is c.args.blocks.now.items c.args.b c.index_mut.result.now c.requires.block c.index_mut.ensures.value) c.requires.within

pub returns-clause-rows : goal.returns-clause-rows
returns-clause-rows c = ap (set c.args.blocks.now.items c.args.b) (c.remove.ensures ∙ ap (λ r. remove r c.args.i) (row_is c.args.blocks.now.items c.args.b c.index_mut.result.now c.requires.block c.index_mut.ensures.value))
