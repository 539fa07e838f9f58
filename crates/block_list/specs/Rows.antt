-- Lists in rows.
use Rattle.std.specs.Prelude.{◌≡◌, ℕ, ◌+◌, ◌-◌, ◌*◌, ◌^◌, ◌<◌, ◌≤◌, List, [], ◌∷◌, length, max, Bool, false, Result, OnOk}
use Rattle.std.specs.List.{AllByRecursion}
use Rattle.mse_base.specs.Rows.{row_items, AreEmpty, Blocks}

-- a list in rows, and how many additions take no memory
pub record ListView (T : Type 0) : Type 0 where
  pub rows : List (List T)
  pub spare : ℕ

-- the rows are as before, and there is no less room for more items, and where all went well room for n
pub record IsReserved {T R E : Type 0} (n : ℕ) (result : Result R E) (old new : ListView T) : Type 0 where
  pub rows : new.rows ≡ old.rows
  pub no_room_lost : old.spare ≤ new.spare
  pub spare : OnOk result (n ≤ new.spare)

-- the second number is the first, or one more
abbrev pub AreOneApart : ℕ → ℕ → Type 0
AreOneApart m n = (m ≤ n) × (n ≤ m + 1)

-- what the rows hold of the room of half blocks: the last all that it has, each other what it has beyond a half;
-- no row as much as a half
abbrev pub used_room : {T : Type 0} → ℕ → List (List T) → ℕ
used_room half [] = half
used_room half (r ∷ []) = length r
used_room half (r ∷ s ∷ rows) = (length r - half) + used_room half (s ∷ rows)

-- no row is empty, and none has more than two halves
abbrev pub AreShort : {T : Type 0} → ℕ → List (List T) → Type 0
AreShort half rows = AllByRecursion (λ r. (0 < length r) × (length r ≤ 2 * half)) rows

-- what a list in rows keeps
pub record IsListed {T : Type 0} (blocks : Blocks T) (half extra : ℕ) : Type 0 where
  pub some : 0 < half
  pub small : half ≤ 64
  pub short : AreShort half blocks.rows
  pub empty : AreEmpty blocks.pool
  pub block_room : length blocks.pool + length blocks.rows ≤ blocks.block_capacity
  pub pool_room : length blocks.pool + length blocks.rows ≤ blocks.pool_capacity
  pub spared : extra
      ≤ max (length blocks.pool) (half * length blocks.pool - used_room half blocks.rows)

-- once the test fails, it fails
abbrev pub IsCut : {T : Type 0} → (T → Bool) → List T → Type 0
IsCut p [] = Unit {0}
IsCut p (x ∷ xs) = (p x ≡ false → AllByRecursion (λ y. p y ≡ false) xs) × IsCut p xs

abbrev pub AreNonEmpty : {T : Type 0} → List (List T) → Type 0
AreNonEmpty [] = Unit {0}
AreNonEmpty (r ∷ rows) = (0 < length r) × AreNonEmpty rows

-- the number of items, and that it fits after the additions that take no memory
pub record IsCounted {T : Type 0} (len extra : ℕ) (rows : List (List T)) : Type 0 where
  pub count : len ≡ length (row_items rows)
  pub fits : len + extra < 2 ^ 64
