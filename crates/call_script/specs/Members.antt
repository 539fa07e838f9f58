-- Lists of which each member is read.
use Rattle.std.specs.Prelude.{ℕ, ◌+◌, List, [], ◌∷◌, Option, Some, None, Result, Ok, Err}
use Rattle.toml.specs.Data.{Data, Items, no_items, item}

-- one more member in front; nothing counts behind one that is bad
abbrev pub in_front : {A : Type 0} → ℕ → Option A → Result (List A) ℕ → Result (List A) ℕ
in_front n None others = Err n
in_front n (Some x) (Err bad) = Err bad
in_front n (Some x) (Ok others) = Ok (x ∷ others)

-- the members, of which the first has the number `n`; or the number of the first that is bad
abbrev pub members_from : {A : Type 0} → (Data → Option A) → ℕ → Items → Result (List A) ℕ
members_from read n no_items = Ok []
members_from read n (item value items) = in_front n (read value) (members_from read (n + 1) items)

-- the members, numbered from 0
abbrev pub members_of : {A : Type 0} → (Data → Option A) → Items → Result (List A) ℕ
members_of read items = members_from read 0 items
