-- What happens in a run.
use Rattle.std.specs.Prelude.{ℕ, ◌==◌, if◌then◌else◌, List, filter_map, Option, Some, None}
use Rattle.mse_calls.specs.declared.entry.Entry.{Entry}
use Rattle.run_steps.specs.declared.note.Note.{Note}

-- The machine did something, which stands in the journal; a listener was given something or did something; or a line was
-- put into the sink.
pub data Happening : Type 0 where
  Did : Entry → Happening
  Noted : ℕ → Note → Happening
  Put : List ℕ → Happening

abbrev pub entry_in : Happening → Option Entry
entry_in (Did entry) = Some entry
entry_in other = None

-- the journal
abbrev pub entries_in : List Happening → List Entry
entries_in happened = filter_map entry_in happened

abbrev pub note_in : ℕ → Happening → Option Note
note_in w (Noted v note) = if v == w then Some note else None
note_in w other = None

-- the notes of a listener, by its number
abbrev pub notes_in : ℕ → List Happening → List Note
notes_in w happened = filter_map (note_in w) happened

abbrev pub line_in : Happening → Option (List ℕ)
line_in (Put line) = Some line
line_in other = None

-- the lines that were put
abbrev pub lines_put : List Happening → List (List ℕ)
lines_put happened = filter_map line_in happened
