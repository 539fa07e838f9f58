use Rattle.std.proofs.Common.{◌≡◌, ◌++◌, ◌≤◌, ℕ, length, true, vec_len}
use Rattle.sample_tables.specs.Samples.{chunk_behind, chunk_counts}
use Rattle.sample_tables.specs.Rules.{are_chunk_runs}
use Rattle.sample_tables.proofs.columns.chunk_counts.Given as goal

abbrev pub invariant-runs : goal.invariant-runs
invariant-runs l = record {
  same : l.counts.items ++ chunk_counts l.chunks l.rest ≡ chunk_counts l.chunks l.runs;
  order : (before : ℕ) × (are_chunk_runs before l.chunks l.rest ≡ true);
  small : vec_len l.counts ≤ chunk_behind l.chunks l.rest;
}

abbrev pub decreases-runs : goal.decreases-runs
decreases-runs l = length l.rest
