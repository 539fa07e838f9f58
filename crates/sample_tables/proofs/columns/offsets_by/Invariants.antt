use Rattle.std.proofs.Common.{◌≡◌, true, take, drop, vec_len}
use Rattle.std.specs.List.{sum_by, list_all}
use Rattle.sample_tables.specs.Samples.{offsets_by}
use Rattle.sample_tables.specs.Rules.{is_short_offset}
use Rattle.sample_tables.proofs.columns.offsets_by.Given as goal

abbrev pub invariant-loop-run : goal.invariant-loop-run
invariant-loop-run l = record {
  items : l.each.items ≡ offsets_by (take l.run-index l.runs);
  len : vec_len l.each ≡ sum_by (λ r. r.count) (take l.run-index l.runs);
  short : list_all is_short_offset (offsets_by (drop l.run-index l.runs)) ≡ true;
}
