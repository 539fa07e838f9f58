-- What must hold of the tables of a track for its samples to be read.
use Rattle.std.specs.Prelude.{◌≡◌, ℕ, ◌+◌, ◌*◌, ◌-◌, ◌/◌, ◌^◌, nat_lt, nat_le, ◌==◌, ◌&&◌, ℤ, pos, negsuc, int_le, unsigned_abs, Bool, true, false, List, [], ◌∷◌, length, sum, sum_by, Option, Some, None, Result, Ok}
use Rattle.std.specs.List.{list_all, zip}
use Rattle.mse_base.specs.Time.{SECOND}
use Rattle.bmff_boxes.specs.Reading.{◌>>=◌, check}
use Rattle.bmff_boxes.specs.declared.reading.ReadError.{ReadError}
use Rattle.bmff_boxes.specs.declared.reading.ReadError.TheVariants.{OutOfMemory, Fault}
use Rattle.sample_tables.specs.declared.fault.MovieFault.{MovieFault}
use Rattle.sample_tables.specs.declared.fault.MovieFault.TheVariants.{Place}
use Rattle.mse_base.specs.declared.track.TrackInfo.{TrackInfo}
use Rattle.sample_tables.specs.declared.entries.OffsetRun.{OffsetRun}
use Rattle.sample_tables.specs.declared.entries.ChunkRun.{ChunkRun}
use Rattle.sample_tables.specs.declared.tables.SampleTables.{SampleTables}
use Rattle.sample_tables.specs.declared.media_track.MediaTrack.{MediaTrack}
use Rattle.sample_tables.specs.declared.totals.Totals.{Totals}
use Rattle.sample_tables.specs.Samples.{sample_count, sizes_of, offsets_of, chunk_counts}

-- ---- the tables agree

-- a table of composition offsets, where it is there, is of n samples
abbrev pub is_offset_table : ℕ → Option (List OffsetRun) → Bool
is_offset_table n None = true
is_offset_table n (Some runs) = sum_by (λ r. r.count) runs == n

-- numbers of samples ascend strictly, above `before` and up to n
abbrev pub are_numbers : ℕ → ℕ → List ℕ → Bool
are_numbers before n [] = true
are_numbers before n (k ∷ ks) = nat_lt before k && (nat_le k n && are_numbers k n ks)

abbrev pub is_sync_table : ℕ → Option (List ℕ) → Bool
is_sync_table n None = true
is_sync_table n (Some numbers) = are_numbers 0 n numbers

-- first chunks ascend strictly, above `before` and up to the number of chunks, and each chunk has a sample
abbrev pub are_chunk_runs : ℕ → ℕ → List ChunkRun → Bool
are_chunk_runs before chunks [] = true
are_chunk_runs before chunks (r ∷ rs) =
    nat_lt before r.first
    && (nat_le r.first chunks && (nat_le 1 r.samples && are_chunk_runs r.first chunks rs))

-- the first run begins with the first chunk
abbrev pub has_first_chunk : ℕ → List ChunkRun → Bool
has_first_chunk chunks [] = chunks == 0
has_first_chunk chunks (r ∷ rs) = r.first == 1

abbrev pub is_chunk_table : ℕ → ℕ → List ChunkRun → Bool
is_chunk_table n chunks runs =
    has_first_chunk chunks runs
    && (are_chunk_runs 0 chunks runs && (sum (chunk_counts chunks runs) == n))

-- all tables are of as many samples as the table of sizes
unfoldable pub are_consistent : SampleTables → Bool
are_consistent t =
    (sum_by (λ r. r.count) t.durations == sample_count t.sizes)
    && (is_offset_table (sample_count t.sizes) t.offsets
    && (is_sync_table (sample_count t.sizes) t.sync
    && is_chunk_table (sample_count t.sizes) (length t.chunk_offsets) t.chunk_runs))

-- ---- what can be written

-- how much later than the movie a track begins, in whole units of its media time
abbrev pub lag_of : TrackInfo → ℕ
lag_of track = unsigned_abs track.empty_shift * track.scale / SECOND

-- a composition offset is written as a signed number of 32 bits
abbrev pub is_short_offset : ℤ → Bool
is_short_offset offset = int_le (negsuc (2 ^ 31 - 1)) offset && int_le offset (pos (2 ^ 31 - 1))

-- the track's number, where its presentation begins, the length of its sample description box and the
-- composition offsets
unfoldable pub is_in_range : TrackInfo → List ℕ → SampleTables → Bool
is_in_range track stsd t =
    nat_le 1 track.id && (nat_le track.id (2 ^ 32 - 2)
    && (int_le track.media_shift (pos (2 ^ 31 - 1))
    && (nat_le (lag_of track) (2 ^ 62) && (nat_le (length stsd) (2 ^ 16)
    && list_all is_short_offset (offsets_of t.offsets (sample_count t.sizes))))))

-- how many samples some tracks have, and how many bytes these
abbrev pub totals_of : List MediaTrack → Totals
totals_of tracks = record {
  samples = sum_by (λ t. length t.samples) tracks;
  bytes = sum_by (λ t. sum_by (λ s. s.size) t.samples) tracks;
}

-- the samples of a track and of those before it are few, and none of them is long
unfoldable pub are_few : Totals → SampleTables → Bool
are_few before t =
    nat_le (before.samples + sample_count t.sizes) (2 ^ 22)
    && (nat_le (before.bytes + sum (sizes_of t.sizes)) (2 ^ 30)
    && list_all (λ size. nat_le size (2 ^ 26)) (sizes_of t.sizes))

-- each sample lies inside a file of this length
abbrev pub is_inside : ℕ → ℕ × ℕ → Bool
is_inside len sample = nat_le (sample.0 + sample.1) len

abbrev pub are_inside : ℕ → List ℕ → List ℕ → Bool
are_inside len places sizes = list_all (is_inside len) (zip places sizes)

-- the places of samples of these sizes, each of which has to lie inside a file of this length
abbrev pub places_inside : ℕ → List ℕ → List ℕ → Result (List ℕ) MovieFault
places_inside len sizes places = do
  _ ← check Place (are_inside len places sizes)
  Ok places

-- a call that found no memory, or a sample that does not lie inside the file
abbrev pub IsPlaceRefusal : Bool → ReadError MovieFault → Type 0
IsPlaceRefusal inside OutOfMemory = Unit {0}
IsPlaceRefusal inside (Fault fault) = (fault ≡ Place) × (inside ≡ false)
