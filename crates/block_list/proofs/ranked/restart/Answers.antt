use Rattle.std.proofs.Common.{◌∙◌, ◌<◌, length, ap, arith}
use Rattle.std.proofs.lemmas.List.{length-set, drop-set-lt}
use Rattle.block_list.specs.Starts.{starts_of}
use Rattle.block_list.proofs.RowItems.{start_more}
use Rattle.block_list.proofs.RemovedStretch.{row_count}
use Rattle.block_list.proofs.RowStarts.{length_starts, start_at, written_front}
use Rattle.block_list.proofs.ranked.restart.Goals as goal

pub overflow_add-count : goal.overflow_add-count
overflow_add-count g c =
    let rows = c.args.list.now.rows in
    let l : c.loop-b.b < length rows = omega (arith, c.loop-b-test.true, c.requires.within) in
    omega (arith, c.loop-b.invariant.count, row_count rows c.loop-b.b l, ap length c.block.ensures.value, c.len-len.ensures)

pub loop-b-preserved : goal.loop-b-preserved
loop-b-preserved g c =
    let ns = c.loop-b.starts.items in
    let rows = c.args.list.now.rows in
    let b = c.loop-b.b in
    let inv = c.loop-b.invariant in
    let l : b < length rows = omega (arith, c.loop-b-test.true, c.requires.within) in
    record {
      long = length-set ns b c.loop-b.count ∙ inv.long;
      within = omega (arith, c.loop-b-test.true);
      count = omega (arith, inv.count, start_more rows b l, ap length c.block.ensures.value);
      front = written_front ns (starts_of rows) b c.loop-b.count (omega (arith, inv.long)) (omega (arith, length_starts 0 rows)) (omega (arith, inv.count, start_at 0 rows b c.loop-b.count l)) inv.front;
      rest = drop-set-lt c.args.to ns b c.loop-b.count c.loop-b-test.true ∙ inv.rest;
      room = inv.room;
    }
