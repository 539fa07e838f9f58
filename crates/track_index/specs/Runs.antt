-- Frames that stand side by side.
use Rattle.std.specs.Prelude.{◌≡◌, ◌+◌, ◌<◌, ◌≤◌, ◌≤ℤ◌, ◌+ℤ◌, ◌&&◌, ℕ, nat_lt, not, Bool, true, List, ◌++◌, length, take, drop}
use Rattle.std.specs.List.{AllByRecursion}
use Rattle.mse_base.specs.declared.span.Span.{Span}
use Rattle.mse_base.specs.Bridging.{span_round}
use Rattle.mse_base.specs.Rows.{row_items, row}
use Rattle.block_list.specs.BlockPlaces.{rank, IsItemPlace}
use Rattle.block_list.specs.declared.block_list.BlockPlace.{BlockPlace}
use Rattle.track_store.specs.declared.store.Stored.{Stored}
use Rattle.track_store.specs.Frames.{bytes_of, interval}
use Rattle.track_index.specs.declared.entry.OrderEntry.{OrderEntry}
use Rattle.track_index.specs.declared.frames.Run.{Run}

-- the frames of a run
abbrev pub frames_in : List (List Stored) → Run → List Stored
frames_in rows run = take run.count (drop (rank rows run.from) (row_items rows))

-- all other frames
abbrev pub frames_out : List (List Stored) → Run → List Stored
frames_out rows run =
    take (rank rows run.from) (row_items rows)
    ++ drop (rank rows run.from + run.count) (row_items rows)

-- the span has the frames' presentation intervals
abbrev pub AreWithin : Span → List Stored → Type 0
AreWithin hull fs = AllByRecursion (λ f. (hull.start ≤ℤ f.frame.pts)
    × ((f.frame.pts +ℤ f.frame.dur) ≤ℤ hull.end)) fs

-- what is said of a run is so: frames stand at its places, as many as it has, its span has their presentation
-- intervals, and its bytes are theirs
pub record IsRun (rows : List (List Stored)) (run : Run) : Type 0 where
  pub block : run.from.block < length rows
  pub index : run.from.index < length (row rows run.from.block)
  pub last_block : run.last.block < length rows
  pub last_index : run.last.index < length (row rows run.last.block)
  pub some : 1 ≤ run.count
  pub count : rank rows run.last + 1 ≡ rank rows run.from + run.count
  pub within : AreWithin run.hull (frames_in rows run)
  pub bytes : run.bytes ≡ bytes_of (frames_in rows run)

-- the run of the frame at a place
abbrev pub run_of_one : BlockPlace → Stored → Run
run_of_one place f =
    record { from = place; last = place; count = 1; hull = interval f; bytes = length f.frame.payload }

-- a run with the frame behind its last
abbrev pub run_with : Run → BlockPlace → Stored → Run
run_with run place f = record {
  from = run.from;
  last = place;
  count = run.count + 1;
  hull = span_round run.hull (interval f);
  bytes = run.bytes + length f.frame.payload;
}

-- the entry's serial is not below the first number nor above the second
abbrev pub is_serial_from : ℕ → ℕ → OrderEntry → Bool
is_serial_from first last o = not (nat_lt o.serial first) && not (nat_lt last o.serial)

-- the place of the last of so many entries from a place on, the serial of each of which lies between two
pub record IsLastBetween (low high : ℕ) (rows : List (List OrderEntry)) (from : BlockPlace) (many : ℕ)
    (last : BlockPlace) : Type 0 where
  pub place : IsItemPlace rows last
  pub count : rank rows last + 1 ≡ rank rows from + many
  pub between : AllByRecursion (λ o. is_serial_from low high o ≡ true)
      (take many (drop (rank rows from) (row_items rows)))
