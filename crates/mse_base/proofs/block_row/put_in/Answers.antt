use Rattle.std.proofs.Common.{ap, ◌∙◌, insert, set}
use Rattle.mse_base.proofs.InRows.{row_is}
use Rattle.mse_base.proofs.block_row.put_in.Goals as goal

pub insert-requires-clause-within : goal.insert-requires-clause-within
insert-requires-clause-within c = rw (row_is c.args.blocks.now.items c.args.b c.index_mut.result.now c.requires.block c.index_mut.ensures.value) c.requires.within

pub insert-requires-clause-room : goal.insert-requires-clause-room
insert-requires-clause-room c = rw (row_is c.args.blocks.now.items c.args.b c.index_mut.result.now c.requires.block c.index_mut.ensures.value) c.requires.room

pub returns-clause-rows : goal.returns-clause-rows
returns-clause-rows c = ap (set c.args.blocks.now.items c.args.b) (c.insert.ensures ∙ ap (λ r. insert r c.args.i c.args.x) (row_is c.args.blocks.now.items c.args.b c.index_mut.result.now c.requires.block c.index_mut.ensures.value))
