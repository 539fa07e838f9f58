use Rattle.std.proofs.Common.{◌≡◌, ◌+◌, ◌*◌, map, vec_len}
use Rattle.std.specs.List.{range_with_len}
use Rattle.std.specs.Vec.{vec_capacity}
use Rattle.sample_tables.specs.Tables.{number_at}
use Rattle.sample_tables.proofs.reading.short_offsets.Given as goal

abbrev pub invariant-loop-i : goal.invariant-loop-i
invariant-loop-i l = record {
  items : l.offsets.items ≡ map (λ i. number_at 4 (8 + i * 4) l.p) (range_with_len 0 l.i);
  len : vec_len l.offsets ≡ l.i;
  room : vec_capacity l.offsets ≡ l.count;
}
