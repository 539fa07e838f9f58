use Rattle.std.proofs.Common.{◌+◌, ◌*◌, ◌∙◌, arith}
use Rattle.sample_tables.specs.Tables.{number_at}
use Rattle.sample_tables.proofs.EntryLaws.{entries-more}
use Rattle.sample_tables.proofs.reading.numbers_from.Goals as goal

pub loop-i-preserved : goal.loop-i-preserved
loop-i-preserved c = record {
  items = entries-more (λ i. number_at 4 (c.args.first + i * 4) c.args.p.now) c.loop-i.i c.loop-i.numbers.items _ _ c.loop-i.invariant.items c.push_reserved.ensures.items (c.u32_at.ensures);
  len = omega (arith, c.loop-i.invariant.len, c.push_reserved.ensures.len);
  room = c.push_reserved.ensures.capacity ∙ c.loop-i.invariant.room;
}
