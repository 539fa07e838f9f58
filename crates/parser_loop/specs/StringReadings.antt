-- A string of bytes that a parser reads, in any byte stream format, and how such a reading changes.
use Rattle.std.specs.Prelude.{ℕ, List, [], ◌++◌, take, Option}
use Rattle.mse_base.specs.declared.track.Presentation.{Presentation}
use Rattle.parser_loop.specs.Items.{Item, latest_after_all}
use Rattle.parser_loop.specs.Walk.{count_after}

-- The presentation that the last reset left, all bytes since then, and how many items were given.
pub record StringReading : Type 0 where
  pub before : Option Presentation
  pub whole : List ℕ
  pub taken : ℕ

-- the empty string, with what presentation a reset left
abbrev pub string_from : Option Presentation → StringReading
string_from before = record { before = before; whole = []; taken = 0 }

-- bytes are appended
abbrev pub with_bytes : List ℕ → StringReading → StringReading
with_bytes bytes r = record { before = r.before; whole = r.whole ++ bytes; taken = r.taken }

-- the next item was asked for, and this was given, or none
abbrev pub after_answer : {I : Type 0} → Option I → StringReading → StringReading
after_answer item r = record {
  before = r.before;
  whole = r.whole;
  taken = count_after r.taken item;
}

-- the parser state was reset, where the string has these items: the presentation of those that were given stays
abbrev pub after_reset : {F : Type 0} → List (Item F) → StringReading → StringReading
after_reset items r = string_from (latest_after_all r.before (take r.taken items))
