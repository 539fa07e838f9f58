use Rattle.std.proofs.Common.{◌<◌, length, arith}
use Rattle.mse_base.proofs.InRows.{row_within, start_more}
use Rattle.mse_base.proofs.block_starts.start_of.Goals as goal

pub overflow_add-count : goal.overflow_add-count
overflow_add-count c =
    let here : c.loop-i.i < length c.args.blocks.now.items = omega (arith, c.loop-i-test.true, c.requires.within) in
    omega (arith, c.loop-i.invariant.count, c.requires.small, c.len_at-count.ensures.value, row_within c.args.blocks.now.items c.loop-i.i here)

pub loop-i-preserved : goal.loop-i-preserved
loop-i-preserved c =
    let here : c.loop-i.i < length c.args.blocks.now.items = omega (arith, c.loop-i-test.true, c.requires.within) in
    record {
      within = omega (arith, c.loop-i-test.true);
      count = omega (arith, c.loop-i.invariant.count, c.len_at-count.ensures.value, start_more c.args.blocks.now.items c.loop-i.i here);
    }
