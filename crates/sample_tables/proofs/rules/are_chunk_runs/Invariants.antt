use Rattle.std.proofs.Common.{◌≡◌, drop}
use Rattle.sample_tables.specs.Rules.{are_chunk_runs}
use Rattle.sample_tables.proofs.rules.are_chunk_runs.Given as goal

abbrev pub invariant-loop-run : goal.invariant-loop-run
invariant-loop-run l = are_chunk_runs l.before l.chunks (drop l.run-index l.runs) ≡ are_chunk_runs 0 l.chunks l.runs
