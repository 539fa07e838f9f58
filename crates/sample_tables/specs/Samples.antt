-- What the tables tell of each sample (ISO/IEC 14496-12, 8.6 and 8.7).
use Rattle.std.specs.Prelude.{◌≡◌, ℕ, ◌+◌, ◌-◌, ◌^◌, ◌≤◌, ◌==◌, ℤ, pos, Bool, true, false, List, [], ◌∷◌, ◌++◌, length, take, drop, map, sum, replicate, slice_index, slice_index_or, Option, Some, None}
use Rattle.std.specs.List.{flat_map, list_any, range_with_len}
use Rattle.sample_tables.specs.declared.entries.DurationRun.{DurationRun}
use Rattle.sample_tables.specs.declared.entries.OffsetRun.{OffsetRun}
use Rattle.sample_tables.specs.declared.entries.ChunkRun.{ChunkRun}
use Rattle.sample_tables.specs.declared.entries.SampleSizes.{SampleSizes}
use Rattle.sample_tables.specs.declared.entries.SampleSizes.TheVariants.{Same, Each}
use Rattle.sample_tables.specs.declared.tables.SampleTables.{SampleTables}
use Rattle.sample_tables.specs.declared.sample.Sample.{Sample}
use Rattle.sample_tables.specs.declared.columns.SampleColumns.{SampleColumns}

-- how many samples a track has
abbrev pub sample_count : SampleSizes → ℕ
sample_count (Same size count) = count
sample_count (Each sizes) = length sizes

-- how many bytes each sample has
abbrev pub sizes_of : SampleSizes → List ℕ
sizes_of (Same size count) = replicate count size
sizes_of (Each sizes) = sizes

-- how long each sample lasts
abbrev pub durations_of : List DurationRun → List ℕ
durations_of runs = flat_map (λ r. replicate r.count r.duration) runs

-- the composition offset of each sample; 0 where there is no table
abbrev pub offsets_by : List OffsetRun → List ℤ
offsets_by runs = flat_map (λ r. replicate r.count r.offset) runs

abbrev pub offsets_of : Option (List OffsetRun) → ℕ → List ℤ
offsets_of None n = replicate n (pos 0)
offsets_of (Some runs) n = offsets_by runs

-- whether each sample is a sync sample: one whose number, which is its position and 1, is in the table, or each
-- where there is no table
abbrev pub sync_by : List ℕ → ℕ → List Bool
sync_by numbers n = map (λ i. list_any (λ number. number == i + 1) numbers) (range_with_len 0 n)

abbrev pub sync_of : Option (List ℕ) → ℕ → List Bool
sync_of None n = replicate n true
sync_of (Some numbers) n = sync_by numbers n

-- the chunk behind a run of chunks that have equally many samples
abbrev pub chunk_behind : ℕ → List ChunkRun → ℕ
chunk_behind chunks [] = chunks + 1
chunk_behind chunks (r ∷ rs) = r.first

-- how many samples each chunk has
abbrev pub chunk_counts : ℕ → List ChunkRun → List ℕ
chunk_counts chunks [] = []
chunk_counts chunks (r ∷ rs) =
    replicate (chunk_behind chunks rs - r.first) r.samples ++ chunk_counts chunks rs

-- where the samples of a chunk begin that begins at a place: one stands behind the other
abbrev pub places_from : ℕ → List ℕ → List ℕ
places_from at [] = []
places_from at (size ∷ sizes) = at ∷ places_from (at + size) sizes

-- where each sample begins, by the offsets of the chunks, their counts of samples and the sizes of the samples
abbrev pub places_of : List ℕ → List ℕ → List ℕ → List ℕ
places_of [] counts sizes = []
places_of (at ∷ offsets) [] sizes = []
places_of (at ∷ offsets) (count ∷ counts) sizes =
    places_from at (take count sizes) ++ places_of offsets counts (drop count sizes)

-- what the tables tell of the samples, a list for each field
unfoldable pub columns_of : SampleTables → SampleColumns
columns_of t = record {
  durations = durations_of t.durations;
  offsets = offsets_of t.offsets (sample_count t.sizes);
  sync = sync_of t.sync (sample_count t.sizes);
  sizes = sizes_of t.sizes;
  places =
      places_of t.chunk_offsets (chunk_counts (length t.chunk_offsets) t.chunk_runs)
      (sizes_of t.sizes);
}

-- each field is there for each sample, of which there are at most 2 ^ 22
pub record AreComplete (c : SampleColumns) : Type 0 where
  pub durations : length c.durations ≡ length c.sizes
  pub offsets : length c.offsets ≡ length c.sizes
  pub sync : length c.sync ≡ length c.sizes
  pub places : length c.places ≡ length c.sizes
  pub few : length c.sizes ≤ 2 ^ 22

-- sample i, the first being 0; it is decoded when those before it are over
abbrev pub sample_at : SampleColumns → ℕ → Sample
sample_at c i = record {
  decode = sum (take i c.durations);
  duration = slice_index c.durations i;
  offset = slice_index_or c.offsets i (pos 0);
  sync = slice_index_or c.sync i false;
  place = slice_index c.places i;
  size = slice_index c.sizes i;
}

-- the samples in order
unfoldable pub samples_of : SampleColumns → List Sample
samples_of c = map (sample_at c) (range_with_len 0 (length c.sizes))
