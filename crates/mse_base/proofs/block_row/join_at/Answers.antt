use Rattle.std.proofs.Common.{◌+◌, length, ap, arith}
use Rattle.mse_base.proofs.InRows.{row_is, front_row, merged_is}
use Rattle.mse_base.proofs.block_row.join_at.Goals as goal

pub append-requires : goal.append-requires
append-requires c =
    let rows = c.args.blocks.now.items in
    let left = front_row rows c.remove-right.new.self.items c.args.b c.index_mut.result.now c.remove-right.ensures.items c.requires.within c.index_mut.ensures.value in
    let right = row_is rows (c.args.b + 1) c.remove-right.result c.requires.within c.remove-right.ensures.value in
    omega (arith, ap length left, ap length right, c.requires.few)

pub returns-clause-rows : goal.returns-clause-rows
returns-clause-rows c =
    let rows = c.args.blocks.now.items in
    let left = front_row rows c.remove-right.new.self.items c.args.b c.index_mut.result.now c.remove-right.ensures.items c.requires.within c.index_mut.ensures.value in
    let right = row_is rows (c.args.b + 1) c.remove-right.result c.requires.within c.remove-right.ensures.value in
    merged_is rows c.remove-right.new.self.items c.args.b c.index_mut.result.now c.remove-right.result c.append.new.self c.requires.within c.remove-right.ensures.items left right c.append.ensures.spans
