use Rattle.std.proofs.Common.{◌≡◌, ◌*◌, ◌≤◌, ◌^◌, take, map, sum, length, vec_len}
use Rattle.std.specs.List.{range_with_len, AllByRecursion}
use Rattle.std.specs.Vec.{vec_capacity}
use Rattle.sample_tables.specs.Samples.{sample_at}
use Rattle.sample_tables.proofs.columns.samples_of.Given as goal

abbrev pub invariant-loop-i : goal.invariant-loop-i
invariant-loop-i l = record {
  items : l.samples.items ≡ map (sample_at l.columns) (range_with_len 0 l.i);
  times : AllByRecursion (λ s. s.decode ≤ 2 ^ 54) l.samples.items;
  decoded : l.decode ≡ sum (take l.i l.columns.durations);
  small : l.decode ≤ l.i * 2 ^ 32;
  len : vec_len l.samples ≡ l.i;
  room : vec_capacity l.samples ≡ length l.columns.sizes;
}
