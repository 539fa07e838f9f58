-- What a journal holds.
use Rattle.std.specs.Prelude.{ℕ, List}
use Rattle.mse_calls.specs.declared.entry.Entry.{Entry}

-- the entries, and for how many more there is room
pub record JournalView : Type 0 where
  pub entries : List Entry
  pub spare : ℕ
