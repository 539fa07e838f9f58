use Rattle.std.proofs.Common.{◌+◌, ◌*◌, ◌∙◌, arith}
use Rattle.sample_tables.specs.Tables.{offset_run_at}
use Rattle.sample_tables.proofs.EntryLaws.{entries-more}
use Rattle.sample_tables.proofs.reading.offset_entries.Goals as goal

pub loop-i-preserved : goal.loop-i-preserved
loop-i-preserved c = record {
  items = entries-more (λ i. offset_run_at c.args.p.now (8 + i * 8)) c.loop-i.i c.loop-i.runs.items _ _ c.loop-i.invariant.items c.push_reserved.ensures.items (c.offset_run_at.ensures);
  len = omega (arith, c.loop-i.invariant.len, c.push_reserved.ensures.len);
  room = c.push_reserved.ensures.capacity ∙ c.loop-i.invariant.room;
}
