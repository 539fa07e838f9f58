-- Where rows start.
use Rattle.std.specs.Prelude.{◌≡◌, ℕ, ◌+◌, ◌≤◌, List, [], ◌∷◌, length, take, drop}

-- for each row how many items stand before it, where n stand before the first
abbrev pub starts_from : {T : Type 0} → ℕ → List (List T) → List ℕ
starts_from n [] = []
starts_from n (r ∷ rows) = n ∷ starts_from (n + length r) rows

-- for each row how many items stand before it
abbrev pub starts_of : {T : Type 0} → List (List T) → List ℕ
starts_of rows = starts_from 0 rows

-- numbers, each greater by x
abbrev pub plus_each : ℕ → List ℕ → List ℕ
plus_each x [] = []
plus_each x (n ∷ ns) = (n + x) ∷ plus_each x ns

-- starts of rows of which those from a place on are too great, all by the same
pub record AreStartsFrom {T : Type 0} (kept : List ℕ) (place excess : ℕ) (rows : List (List T))
    : Type 0 where
  pub len : length kept ≡ length rows
  pub front : take place kept ≡ take place (starts_of rows)
  pub rest : drop place kept ≡ plus_each excess (drop place (starts_of rows))

-- starts as they are kept: those from a place on are too great, all by the same
pub record AreStartsUpTo (kept : List ℕ) (settled excess : ℕ) (starts : List ℕ) : Type 0 where
  pub long : length kept ≡ length starts
  pub within : settled ≤ length starts
  pub front : take settled kept ≡ take settled starts
  pub rest : drop settled kept ≡ plus_each excess (drop settled starts)
  pub none : settled ≡ length starts → excess ≡ 0
