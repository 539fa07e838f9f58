-- The running ends of blocks.
use Rattle.std.specs.Prelude.{◌≡◌, ◌+◌, ◌-◌, ◌<◌, ◌≤◌, ℕ, ℤ, List, [], ◌∷◌, length, take, drop, Option, None}
use Rattle.track_index.specs.declared.entry.OrderEntry.{OrderEntry}
use Rattle.mse_base.specs.Moments.{greatest_of_two}
use Rattle.track_index.specs.Known.{greatest_end}

-- for each row the greatest end of its entries, of those of the rows before, and of an end before all
abbrev pub running_ends : Option ℤ → List (List OrderEntry) → List (Option ℤ)
running_ends best [] = []
running_ends best (r ∷ rows) =
    greatest_of_two best (greatest_end r)
    ∷ running_ends (greatest_of_two best (greatest_end r)) rows

-- the running ends of rows
abbrev pub tops_of : List (List OrderEntry) → List (Option ℤ)
tops_of rows = running_ends None rows

-- from place n on the ends are the running ends of the rows from m on, behind some end
abbrev pub AreTopsFrom : ℕ → List (Option ℤ) → ℕ → List (List OrderEntry) → Type 0
AreTopsFrom n ts m rows = (best : Option ℤ) × (drop n ts ≡ running_ends best (drop m rows))

-- the ends before the rows from b up to before `behind` changed: one was cut in two, or some went
pub record AreTopsMendable (ts : List (Option ℤ)) (rows : List (List OrderEntry)) (b behind cap : ℕ)
    : Type 0 where
  pub within : b ≤ length ts
  pub some : b < behind
  pub at_most_one_behind : behind ≤ length ts + 1
  pub at_most_one_more : length rows ≤ length ts + 1
  pub at_most_touched_gone : b + length ts ≤ behind + length rows
  pub gone : length rows < length ts → behind ≤ length ts
  pub room : length rows ≤ cap
  pub front : take b ts ≡ take b (tops_of rows)
  pub rest : AreTopsFrom behind ts ((behind + length rows) - length ts) rows
