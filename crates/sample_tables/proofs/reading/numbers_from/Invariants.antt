use Rattle.std.proofs.Common.{◌≡◌, ◌+◌, ◌*◌, map, vec_len}
use Rattle.std.specs.List.{range_with_len}
use Rattle.std.specs.Vec.{vec_capacity}
use Rattle.sample_tables.specs.Tables.{number_at}
use Rattle.sample_tables.proofs.reading.numbers_from.Given as goal

abbrev pub invariant-loop-i : goal.invariant-loop-i
invariant-loop-i l = record {
  items : l.numbers.items ≡ map (λ i. number_at 4 (l.first + i * 4) l.p) (range_with_len 0 l.i);
  len : vec_len l.numbers ≡ l.i;
  room : vec_capacity l.numbers ≡ l.count;
}
