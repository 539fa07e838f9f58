use Rattle.std.proofs.Common.{arith}
use Rattle.sample_tables.proofs.EntryLaws.{entries-few}
use Rattle.sample_tables.proofs.reading.read_chunk_offsets.Goals as goal

pub returns-in-Some-clause-few : goal.returns-in-Some-clause-few
returns-in-Some-clause-few c = entries-few _ _ _ _ c.from_vec.ensures c.in_ok-short.ensures (omega arith)

pub returns-clause-few : goal.returns-clause-few
returns-clause-few c = entries-few _ _ _ _ c.from_vec-2.ensures c.in_ok-long.ensures (omega arith)
