-- Lists in rows, and spans in rows.
use Rattle.std.specs.Prelude.{◌≡◌, ℕ, zero, suc, ◌+◌, ◌*◌, ◌^◌, ◌<◌, ◌≤◌, List, [], ◌∷◌, ◌++◌, length, take, drop, slice_index}
use Rattle.std.specs.List.{AllByRecursion}
use Rattle.mse_base.specs.declared.span.Span.{Span}

-- the items in order
abbrev pub row_items : {T : Type 0} → List (List T) → List T
row_items [] = []
row_items (r ∷ rows) = r ++ row_items rows

-- how many items stand before row b
abbrev pub start : {T : Type 0} → List (List T) → ℕ → ℕ
start rows zero = 0
start [] (suc b) = 0
start (r ∷ rows) (suc b) = length r + start rows b

-- row b; where there is none, the empty one
abbrev pub row : {T : Type 0} → List (List T) → ℕ → List T
row [] b = []
row (r ∷ rows) zero = r
row (r ∷ rows) (suc b) = row rows b

-- row b cut in two at s
abbrev pub split_row : {T : Type 0} → List (List T) → ℕ → ℕ → List (List T)
split_row [] b s = []
split_row (r ∷ rows) zero s = take s r ∷ drop s r ∷ rows
split_row (r ∷ rows) (suc b) s = r ∷ split_row rows b s

abbrev pub AreEmpty : {T : Type 0} → List (List T) → Type 0
AreEmpty rows = AllByRecursion (λ r. r ≡ []) rows

-- rows in blocks, a pool of empty blocks, and for how many blocks each of the two has room
pub record Blocks (T : Type 0) : Type 0 where
  pub rows : List (List T)
  pub pool : List (List T)
  pub block_capacity : ℕ
  pub pool_capacity : ℕ

-- row b and the one behind it as one
abbrev pub merge_rows : List (List Span) → ℕ → List (List Span)
merge_rows [] b = []
merge_rows (r ∷ []) b = r ∷ []
merge_rows (r ∷ s ∷ rows) zero = (r ++ s) ∷ rows
merge_rows (r ∷ s ∷ rows) (suc b) = r ∷ merge_rows (s ∷ rows) b

abbrev pub AreFilled : List (List Span) → Type 0
AreFilled rows = AllByRecursion (λ r. 0 < length r) rows

-- no two neighbours have few enough spans to be one row of at most 512
abbrev pub AreDense : List (List Span) → Type 0
AreDense [] = Unit {0}
AreDense (r ∷ []) = Unit {0}
AreDense (r ∷ s ∷ rows) = (512 < length r + length s) × AreDense (s ∷ rows)

-- what spans in blocks keep: how many there are, and for how many more there is room, and a pool
-- of empty blocks that is large enough for all of these, however they stand, once no two neighbours
-- can be one block
pub record IsSpread (blocks : Blocks Span) (len spare : ℕ) : Type 0 where
  pub filled : AreFilled blocks.rows
  pub empty : AreEmpty blocks.pool
  pub block_room : length blocks.pool + length blocks.rows ≤ blocks.block_capacity
  pub pool_room : length blocks.pool + length blocks.rows ≤ blocks.pool_capacity
  pub count : len ≡ length (row_items blocks.rows)
  pub fits : len + spare < 2 ^ 64
  pub enough : 0 < len + spare
      → 2 * (len + spare) + 513 ≤ 513 * (length blocks.rows + length blocks.pool)

-- number g, from 0 on, is how many items come before row 32 * (g + 1); there may be fewer numbers than such rows
pub record AreStarts {T : Type 0} (starts : List ℕ) (rows : List (List T)) : Type 0 where
  pub within : 32 * length starts ≤ length rows
  pub each : (g : ℕ) → g < length starts → slice_index starts g ≡ start rows (32 * (g + 1))

-- what spans in blocks keep, and how many of them come before groups of 32 blocks
pub record IsRanked (blocks : Blocks Span) (numbers : List ℕ) (len spare : ℕ) : Type 0 where
  pub spread : IsSpread blocks len spare
  pub starts : AreStarts numbers blocks.rows
