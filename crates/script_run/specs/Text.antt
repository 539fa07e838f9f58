-- Printed lines, each with its line feed (docs/SCRIPTS.md, lines of calls and events).
use Rattle.std.specs.Prelude.{ℕ, ◌==◌, if◌then◌else◌, List, [], ◌∷◌}
use Rattle.std.specs.List.{flat_map}
use Rattle.mse_calls.specs.declared.entry.Entry.{Entry}
use Rattle.event_text.specs.Lines.{line_text}

-- the line, where there is one
abbrev pub line_if_any : List ℕ → List (List ℕ)
line_if_any [] = []
line_if_any (c ∷ text) = (c ∷ text) ∷ []

-- the line of an entry; none of an entry that prints nothing
abbrev pub lines_of_entry : Entry → List (List ℕ)
lines_of_entry entry = line_if_any (line_text entry)

-- those of a journal
abbrev pub lines_of : List Entry → List (List ℕ)
lines_of entries = flat_map lines_of_entry entries

-- a byte that is no line feed, and the lines behind it: it begins the first of them
abbrev pub onto_first_line : ℕ → List (List ℕ) → List (List ℕ)
onto_first_line c [] = (c ∷ []) ∷ []
onto_first_line c (line ∷ lines) = (c ∷ line) ∷ lines

-- the lines of a text, which is cut behind each line feed
abbrev pub lines_in : List ℕ → List (List ℕ)
lines_in [] = []
lines_in (c ∷ text) =
    if c == 10 then (c ∷ []) ∷ lines_in text else onto_first_line c (lines_in text)
