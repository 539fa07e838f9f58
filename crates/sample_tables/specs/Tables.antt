-- The tables of a sample table box (ISO/IEC 14496-12, 8.5.1), each as the list of its entries.
use Rattle.std.specs.Prelude.{ℕ, ◌+◌, ◌*◌, nat_le, ◌==◌, if◌then◌else◌, List, length, drop, map, Option, Some, None, Result, Ok, Err}
use Rattle.std.specs.List.{range_with_len}
use lib.Chars.{codes}
use Rattle.byteorder.specs.Endian.{big_number}
use Rattle.bmff_boxes.specs.Fields.{field}
use Rattle.bmff_boxes.specs.FragmentFields.{composition_offset}
use Rattle.bmff_boxes.specs.MovieFields.{entry_count_of}
use Rattle.bmff_boxes.specs.Reading.{◌>>=◌, need, check}
use Rattle.bmff_boxes.specs.Rows.{BoxView, first_of}
use Rattle.bmff_init.specs.declared.fault.InitFault.{InitFault}
use Rattle.bmff_init.specs.declared.fault.InitFault.TheVariants.{Size, Missing}
use Rattle.sample_tables.specs.declared.entries.DurationRun.{DurationRun}
use Rattle.sample_tables.specs.declared.entries.OffsetRun.{OffsetRun}
use Rattle.sample_tables.specs.declared.entries.ChunkRun.{ChunkRun}
use Rattle.sample_tables.specs.declared.entries.SampleSizes.{SampleSizes}
use Rattle.sample_tables.specs.declared.entries.SampleSizes.TheVariants.{Same, Each}
use Rattle.sample_tables.specs.declared.tables.SampleTables.{SampleTables}

-- the number in the n bytes from place i on, of a payload that has them
abbrev pub number_at : ℕ → ℕ → List ℕ → ℕ
number_at n i p = big_number n (drop i p)

-- how many entries of `len` bytes a table has (entry_count); they stand behind this count
abbrev pub entry_total : ℕ → List ℕ → Result ℕ InitFault
entry_total len p = do
  count ← need Size (entry_count_of p)
  _ ← check Size (nat_le (8 + count * len) (length p))
  Ok count

-- the entries, where `entry` reads the one at a place
abbrev pub entries_of : {E : Type 0} → ℕ → (ℕ → E) → List ℕ → Result (List E) InitFault
entries_of len entry p =
    entry_total len p >>= λ count. Ok (map (λ i. entry (8 + i * len)) (range_with_len 0 count))

-- stts, decoding time to sample (8.6.1.2): sample_count and sample_delta
abbrev pub duration_run_at : List ℕ → ℕ → DurationRun
duration_run_at p at = record { count = number_at 4 at p; duration = number_at 4 (at + 4) p }

abbrev pub duration_runs_of : List ℕ → Result (List DurationRun) InitFault
duration_runs_of stts = entries_of 8 (duration_run_at stts) stts

-- ctts, composition time to sample (8.6.1.3): sample_count and sample_offset, which is unsigned in version 0 and
-- signed in every other
abbrev pub offset_run_at : List ℕ → ℕ → OffsetRun
offset_run_at p at = record {
  count = number_at 4 at p;
  offset = composition_offset p (number_at 4 (at + 4) p);
}

abbrev pub offset_runs_of : List ℕ → Result (List OffsetRun) InitFault
offset_runs_of ctts = entries_of 8 (offset_run_at ctts) ctts

-- stss, sync sample (8.6.2): sample_number, the first sample being 1
abbrev pub sync_numbers_of : List ℕ → Result (List ℕ) InitFault
sync_numbers_of stss = entries_of 4 (λ at. number_at 4 at stss) stss

-- stsz, sample size (8.7.3): sample_size, which is that of all samples where it is not 0, then sample_count, and
-- else entry_size for each sample
abbrev pub each_size_of : ℕ → List ℕ → Result SampleSizes InitFault
each_size_of count stsz = do
  _ ← check Size (nat_le (12 + count * 4) (length stsz))
  Ok (Each (map (λ i. number_at 4 (12 + i * 4) stsz) (range_with_len 0 count)))

abbrev pub sizes_by : ℕ → ℕ → List ℕ → Result SampleSizes InitFault
sizes_by size count stsz = if size == 0 then each_size_of count stsz else Ok (Same size count)

abbrev pub sample_sizes_of : List ℕ → Result SampleSizes InitFault
sample_sizes_of stsz = do
  size ← need Size (field 4 4 stsz)
  count ← need Size (field 4 8 stsz)
  sizes_by size count stsz

-- stsc, sample to chunk (8.7.4): first_chunk, the first being 1, samples_per_chunk, and
-- sample_description_index, which is not read
abbrev pub chunk_run_at : List ℕ → ℕ → ChunkRun
chunk_run_at p at = record { first = number_at 4 at p; samples = number_at 4 (at + 4) p }

abbrev pub chunk_runs_of : List ℕ → Result (List ChunkRun) InitFault
chunk_runs_of stsc = entries_of 12 (chunk_run_at stsc) stsc

-- stco and co64, chunk offset (8.7.5): chunk_offset, of four bytes in stco and of eight in co64; where both are
-- there stco counts
abbrev pub chunk_offsets_of : Option (List ℕ) → Option (List ℕ) → Result (List ℕ) InitFault
chunk_offsets_of (Some stco) co64 = entries_of 4 (λ at. number_at 4 at stco) stco
chunk_offsets_of None (Some co64) = entries_of 8 (λ at. number_at 8 at co64) co64
chunk_offsets_of None None = Err (Missing (codes "stco"))

-- a table that may be missing
abbrev pub offsets_if_there : Option (List ℕ) → Result (Option (List OffsetRun)) InitFault
offsets_if_there None = Ok None
offsets_if_there (Some ctts) = offset_runs_of ctts >>= λ runs. Ok (Some runs)

abbrev pub sync_if_there : Option (List ℕ) → Result (Option (List ℕ)) InitFault
sync_if_there None = Ok None
sync_if_there (Some stss) = sync_numbers_of stss >>= λ numbers. Ok (Some numbers)

-- the tables among the boxes of a sample table box
unfoldable pub tables_of : List BoxView → Result SampleTables InitFault
tables_of stbl = do
  stts ← need (Missing (codes "stts")) (first_of (codes "stts") stbl)
  stsz ← need (Missing (codes "stsz")) (first_of (codes "stsz") stbl)
  stsc ← need (Missing (codes "stsc")) (first_of (codes "stsc") stbl)
  chunk_offsets ← chunk_offsets_of (first_of (codes "stco") stbl) (first_of (codes "co64") stbl)
  durations ← duration_runs_of stts
  offsets ← offsets_if_there (first_of (codes "ctts") stbl)
  sync ← sync_if_there (first_of (codes "stss") stbl)
  sizes ← sample_sizes_of stsz
  chunk_runs ← chunk_runs_of stsc
  Ok
      (record {
        durations = durations;
        offsets = offsets;
        sync = sync;
        sizes = sizes;
        chunk_runs = chunk_runs;
        chunk_offsets = chunk_offsets;
      })
