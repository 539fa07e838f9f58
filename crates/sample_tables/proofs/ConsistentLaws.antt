-- What tables that agree make.
use Rattle.std.proofs.Common.{◌≡◌, ℕ, ◌≤◌, ◌^◌, eqb, true, ◌&&◌, length, sum, sum_by, refl, sym, ◌∙◌, arith}
use Rattle.std.proofs.lemmas.Bool.Decides.{nat_tests}
use Rattle.sample_tables.specs.declared.entries.SampleSizes.{SampleSizes}
use Rattle.sample_tables.specs.declared.entries.SampleSizes.TheVariants.{Same, Each}
use Rattle.sample_tables.specs.declared.tables.SampleTables.{SampleTables}
use Rattle.sample_tables.specs.Samples.{sample_count, sizes_of, chunk_counts, columns_of, AreComplete}
use Rattle.sample_tables.specs.Rules.{is_offset_table, is_sync_table, has_first_chunk, are_chunk_runs, is_chunk_table, are_consistent}
use Rattle.sample_tables.proofs.RuleLaws.{both_true}
use Rattle.sample_tables.proofs.ColumnLaws.{length_replicate, length_durations, length_offsets, length_sync, length_counts, length_places}

pub record AreConsistent (t : SampleTables) : Type 0 where
  pub durations : sum_by (λ r. r.count) t.durations ≡ sample_count t.sizes
  pub offsets : is_offset_table (sample_count t.sizes) t.offsets ≡ true
  pub sync : is_sync_table (sample_count t.sizes) t.sync ≡ true
  pub begins : has_first_chunk (length t.chunk_offsets) t.chunk_runs ≡ true
  pub runs : are_chunk_runs 0 (length t.chunk_offsets) t.chunk_runs ≡ true
  pub total : sum (chunk_counts (length t.chunk_offsets) t.chunk_runs) ≡ sample_count t.sizes

same_of : (a b : ℕ) → eqb a b ≡ true → a ≡ b
same_of a b e = grind (arith, nat_tests)

pub agree : (t : SampleTables) → are_consistent t ≡ true → AreConsistent t
unfolding are_consistent
agree t e =
    let n = sample_count t.sizes in
    let chunks = length t.chunk_offsets in
    let a = both_true (eqb (sum_by (λ r. r.count) t.durations) n) (is_offset_table n t.offsets && (is_sync_table n t.sync && is_chunk_table n chunks t.chunk_runs)) e in
    let b = both_true (is_offset_table n t.offsets) (is_sync_table n t.sync && is_chunk_table n chunks t.chunk_runs) a.1 in
    let c = both_true (is_sync_table n t.sync) (is_chunk_table n chunks t.chunk_runs) b.1 in
    let d = both_true (has_first_chunk chunks t.chunk_runs) (are_chunk_runs 0 chunks t.chunk_runs && eqb (sum (chunk_counts chunks t.chunk_runs)) n) c.1 in
    let f = both_true (are_chunk_runs 0 chunks t.chunk_runs) (eqb (sum (chunk_counts chunks t.chunk_runs)) n) d.1 in
    record {
      durations = same_of _ _ a.0;
      offsets = b.0;
      sync = c.0;
      begins = d.0;
      runs = f.0;
      total = same_of _ _ f.1;
    }

pub length_sizes : (s : SampleSizes) → length (sizes_of s) ≡ sample_count s
length_sizes (Same size count) = length_replicate count size
length_sizes (Each sizes) = refl

-- each field is there for each sample
pub complete : (t : SampleTables) → are_consistent t ≡ true → sample_count t.sizes ≤ 2 ^ 22 → AreComplete (columns_of t)
unfolding columns_of
complete t e few =
    let a = agree t e in
    let n = length_sizes t.sizes in
    let counts = length_counts (length t.chunk_offsets) t.chunk_runs a.begins a.runs in
    record {
      durations = length_durations t.durations ∙ (a.durations ∙ sym n);
      offsets = length_offsets t.offsets (sample_count t.sizes) a.offsets ∙ sym n;
      sync = length_sync t.sync (sample_count t.sizes) ∙ sym n;
      places = length_places t.chunk_offsets (chunk_counts (length t.chunk_offsets) t.chunk_runs) (sizes_of t.sizes) counts (a.total ∙ sym n);
      few = omega (arith, n, few);
    }
