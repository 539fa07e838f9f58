-- Places in rows.
use Rattle.std.specs.Prelude.{◌≡◌, ℕ, ◌+◌, ◌<◌, ◌≤◌, List, ◌++◌, length, take, drop, slice_index_or, slice_set}
use Rattle.block_list.specs.declared.block_list.BlockPlace.{BlockPlace}
use Rattle.mse_base.specs.Rows.{row_items, start, row}

-- how many items stand before a place
abbrev pub rank : {T : Type 0} → List (List T) → BlockPlace → ℕ
rank rows s = start rows s.block + s.index

-- the place of an item
pub record IsItemPlace {T : Type 0} (rows : List (List T)) (s : BlockPlace) : Type 0 where
  pub block : s.block < length rows
  pub index : s.index < length (row rows s.block)

-- the place of an item, or behind a block's last
pub record IsInBlock {T : Type 0} (rows : List (List T)) (s : BlockPlace) : Type 0 where
  pub block : s.block < length rows
  pub index : s.index ≤ length (row rows s.block)

-- the item at a place
abbrev pub IsItemAt : {T : Type 0} → List (List T) → BlockPlace → T → Type 0
IsItemAt rows s x = x ≡ slice_index_or (row_items rows) (rank rows s) x

-- the items of the new rows are those of the rows, with what a function makes of the item at the place
abbrev pub IsItemSet : {T : Type 0} → (T → T) → List (List T) → BlockPlace → List (List T) → Type 0
IsItemSet {T} f rows s new =
    (d : T) → row_items new
    ≡ slice_set (row_items rows) (rank rows s) (f (slice_index_or (row_items rows) (rank rows s) d))

-- the place of an item, or the end
pub record IsPlace {T : Type 0} (rows : List (List T)) (s : BlockPlace) : Type 0 where
  pub item : s.block < length rows → s.index < length (row rows s.block)
  pub end : length rows ≤ s.block → rank rows s ≡ length (row_items rows)

-- the place of the item before which so many stand, or the end
pub record IsPlaceAfter {T : Type 0} (rows : List (List T)) (count : ℕ) (s : BlockPlace) : Type 0 where
  pub rank : rank rows s ≡ count
  pub place : IsPlace rows s

-- a place of an item, and one not before it that is behind an item of its block
pub record AreBounds {T : Type 0} (rows : List (List T)) (s e : BlockPlace) : Type 0 where
  pub from : s.block < length rows
  pub from_index : s.index < length (row rows s.block)
  pub to : e.block < length rows
  pub to_index : e.index ≤ length (row rows e.block)
  pub some : 0 < e.index
  pub in_order : s.block ≤ e.block
  pub in_block : s.block ≡ e.block → s.index ≤ e.index

-- the items before one place and from another on
abbrev pub items_outside : {T : Type 0} → List (List T) → BlockPlace → BlockPlace → List T
items_outside rows from to = take (rank rows from) (row_items rows) ++ drop (rank rows to) (row_items rows)
