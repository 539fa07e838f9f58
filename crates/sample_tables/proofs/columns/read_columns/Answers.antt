use Rattle.std.proofs.Common.{◌≡◌, length, sum, ap, sym, ◌∙◌}
use Rattle.std.specs.List.{sum_by}
use Rattle.sample_tables.specs.declared.entries.DurationRun.{DurationRun}
use Rattle.sample_tables.specs.Samples.{sizes_of, durations_of, offsets_of, sync_of, chunk_counts, places_of, columns_of}
use Rattle.sample_tables.specs.Rules.{is_offset_table, is_sync_table, are_chunk_runs, places_inside}
use Rattle.sample_tables.proofs.ColumnLaws.{length_counts}
use Rattle.sample_tables.proofs.ConsistentLaws.{agree, length_sizes}
use Rattle.sample_tables.proofs.TrackLaws.{columns_are, columns_fail}
use Rattle.sample_tables.proofs.columns.read_columns.Goals as goal

pub chunk_counts-requires-clause-runs : goal.chunk_counts-requires-clause-runs
chunk_counts-requires-clause-runs c =
    let t = c.args.tables in
    ap (λ k. are_chunk_runs 0 k c.as_slice.result.now) c.len-chunks.ensures ∙ (ap (λ rs. are_chunk_runs 0 (length t.chunk_offsets) rs) c.as_slice.ensures ∙ (agree t c.requires.consistent).runs)

pub places_of-requires-clause-counts : goal.places_of-requires-clause-counts
places_of-requires-clause-counts c =
    let t = c.args.tables in
    let a = agree t c.requires.consistent in
    let counts : c.in_ok-counts.counts.items ≡ chunk_counts (length t.chunk_offsets) t.chunk_runs = c.in_ok-counts.ensures ∙ (ap (λ k. chunk_counts k c.as_slice.result.now) c.len-chunks.ensures ∙ ap (λ rs. chunk_counts (length t.chunk_offsets) rs) c.as_slice.ensures) in
    ap length (c.as_slice-3.ensures.value ∙ counts) ∙ (length_counts (length t.chunk_offsets) t.chunk_runs a.begins a.runs ∙ sym (ap length c.as_slice-2.ensures))

pub places_of-requires-clause-total : goal.places_of-requires-clause-total
places_of-requires-clause-total c =
    let t = c.args.tables in
    let a = agree t c.requires.consistent in
    let counts : c.in_ok-counts.counts.items ≡ chunk_counts (length t.chunk_offsets) t.chunk_runs = c.in_ok-counts.ensures ∙ (ap (λ k. chunk_counts k c.as_slice.result.now) c.len-chunks.ensures ∙ ap (λ rs. chunk_counts (length t.chunk_offsets) rs) c.as_slice.ensures) in
    let sizes : c.as_slice-4.result.now ≡ sizes_of t.sizes = c.as_slice-4.ensures.value ∙ c.in_ok-sizes.ensures in
    ap sum (c.as_slice-3.ensures.value ∙ counts) ∙ (a.total ∙ sym (ap length sizes ∙ length_sizes t.sizes))

pub returns-in-Err : goal.returns-in-Err
unfolding columns_of
returns-in-Err c =
    let t = c.args.tables in
    let counts : c.in_ok-counts.counts.items ≡ chunk_counts (length t.chunk_offsets) t.chunk_runs = c.in_ok-counts.ensures ∙ (ap (λ k. chunk_counts k c.as_slice.result.now) c.len-chunks.ensures ∙ ap (λ rs. chunk_counts (length t.chunk_offsets) rs) c.as_slice.ensures) in
    let sizes : c.as_slice-4.result.now ≡ sizes_of t.sizes = c.as_slice-4.ensures.value ∙ c.in_ok-sizes.ensures in
    let places : places_of c.as_slice-2.result.now c.as_slice-3.result.now c.as_slice-4.result.now ≡ places_of t.chunk_offsets (chunk_counts (length t.chunk_offsets) t.chunk_runs) (sizes_of t.sizes) =
    ap (λ os. places_of os c.as_slice-3.result.now c.as_slice-4.result.now) c.as_slice-2.ensures ∙ (ap (λ cs. places_of t.chunk_offsets cs c.as_slice-4.result.now) (c.as_slice-3.ensures.value ∙ counts) ∙ ap (λ ss. places_of t.chunk_offsets (chunk_counts (length t.chunk_offsets) t.chunk_runs) ss) sizes) in
    columns_fail c.in-Err.error c.args.len t _ _ sizes places c.in-Err.ensures

pub durations_of-requires : goal.durations_of-requires
durations_of-requires c = ap (sum_by (λ (r : DurationRun). r.count)) c.as_slice-5.ensures ∙ ((agree c.args.tables c.requires.consistent).durations ∙ sym c.sample_count-n.ensures)

pub offsets_of-requires-clause-total : goal.offsets_of-requires-clause-total
offsets_of-requires-clause-total c = ap (λ n. is_offset_table n c.args.tables.offsets) c.sample_count-n.ensures ∙ (agree c.args.tables c.requires.consistent).offsets

pub sync_of-requires : goal.sync_of-requires
sync_of-requires c = ap (λ n. is_sync_table n c.args.tables.sync) c.sample_count-n.ensures ∙ (agree c.args.tables c.requires.consistent).sync

pub returns : goal.returns
unfolding columns_of
returns c =
    let t = c.args.tables in
    let counts : c.in_ok-counts.counts.items ≡ chunk_counts (length t.chunk_offsets) t.chunk_runs = c.in_ok-counts.ensures ∙ (ap (λ k. chunk_counts k c.as_slice.result.now) c.len-chunks.ensures ∙ ap (λ rs. chunk_counts (length t.chunk_offsets) rs) c.as_slice.ensures) in
    let sizes : c.as_slice-4.result.now ≡ sizes_of t.sizes = c.as_slice-4.ensures.value ∙ c.in_ok-sizes.ensures in
    let places : places_of c.as_slice-2.result.now c.as_slice-3.result.now c.as_slice-4.result.now ≡ places_of t.chunk_offsets (chunk_counts (length t.chunk_offsets) t.chunk_runs) (sizes_of t.sizes) =
    ap (λ os. places_of os c.as_slice-3.result.now c.as_slice-4.result.now) c.as_slice-2.ensures ∙ (ap (λ cs. places_of t.chunk_offsets cs c.as_slice-4.result.now) (c.as_slice-3.ensures.value ∙ counts) ∙ ap (λ ss. places_of t.chunk_offsets (chunk_counts (length t.chunk_offsets) t.chunk_runs) ss) sizes) in
    columns_are c.args.len t _ _ _ _ _ c.in-Ok.places.items (c.from_vec.ensures ∙ (c.in_ok-durations.ensures ∙ ap durations_of c.as_slice-5.ensures)) (c.from_vec-2.ensures ∙ (c.in_ok-offsets.ensures ∙ ap (λ n. offsets_of t.offsets n) c.sample_count-n.ensures))
    (c.from_vec-3.ensures ∙ (c.in_ok-sync.ensures ∙ ap (λ n. sync_of t.sync n) c.sample_count-n.ensures)) (c.from_vec-4.ensures ∙ c.in_ok-sizes.ensures) c.from_vec-5.ensures
    (sym (ap (λ ss. places_inside c.args.len ss (places_of c.as_slice-2.result.now c.as_slice-3.result.now c.as_slice-4.result.now)) sizes ∙ ap (λ ps. places_inside c.args.len (sizes_of t.sizes) ps) places) ∙ c.in-Ok.ensures)
