use Rattle.std.proofs.Common.{◌≡◌, ◌+◌, ◌*◌, map, vec_len}
use Rattle.std.specs.List.{range_with_len}
use Rattle.std.specs.Vec.{vec_capacity}
use Rattle.sample_tables.specs.Tables.{chunk_run_at}
use Rattle.sample_tables.proofs.reading.chunk_entries.Given as goal

abbrev pub invariant-loop-i : goal.invariant-loop-i
invariant-loop-i l = record {
  items : l.runs.items ≡ map (λ i. chunk_run_at l.p (8 + i * 12)) (range_with_len 0 l.i);
  len : vec_len l.runs ≡ l.i;
  room : vec_capacity l.runs ≡ l.count;
}
