use Rattle.std.proofs.Common.{arith}
use Rattle.block_list.proofs.RemovedStretch.{row_count}
use Rattle.block_list.proofs.ranked.RankedList.rank.Goals as goal

pub overflow_add-result : goal.overflow_add-result
overflow_add-result g c = omega (arith, c.start.ensures, row_count c.args.self.now.rows c.args.place.block c.requires.block, c.requires.index, c.len-len.ensures)
