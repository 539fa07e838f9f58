use Rattle.std.proofs.Common.{◌≡◌, ◌*◌, ◌≤◌, ◌^◌, take}
use Rattle.std.specs.List.{sum_by}
use Rattle.sample_tables.proofs.totals.bytes_of.Given as goal

abbrev pub invariant-loop-sample : goal.invariant-loop-sample
invariant-loop-sample l = record {
  total : l.bytes ≡ sum_by (λ s. s.size) (take l.sample-index l.samples);
  small : l.bytes ≤ l.sample-index * 2 ^ 32;
}
