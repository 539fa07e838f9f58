-- Which entries places stand for, with the calls and the pieces that they name by their index.
use Rattle.std.specs.Prelude.{◌≡◌, ◌<◌, ◌++◌, ℕ, List, length, slice_get, replicate, ⊤}
use Rattle.std.specs.List.{flat_map}
use Rattle.std.specs.Option.{option_map_or}
use Rattle.mse_calls.specs.declared.answers.Answer.TheVariants.{Done}
use Rattle.mse_calls.specs.declared.calls.Call.TheVariants.{AppendBuffer}
use Rattle.mse_calls.specs.declared.calls.Piece.{Piece}
use Rattle.mse_calls.specs.declared.entry.Entry.{Entry}
use Rattle.mse_calls.specs.declared.entry.Entry.TheVariants as entry
use Rattle.run_journal.specs.AnsweredCalls.{AnsweredCall}
use Rattle.run_journal.specs.declared.entry_place.EntryPlace.{EntryPlace}
use Rattle.run_journal.specs.declared.entry_place.EntryPlace.TheVariants.{Step, Script, Append, Listener, Fired, Work, Element}

-- the entry at a place; where a list has nothing at its index, any
abbrev pub entry_at : List AnsweredCall → List Piece → EntryPlace → Entry
entry_at calls pieces (Step n) = entry.Step n
entry_at calls pieces (Script i) =
    option_map_or (λ c. entry.Script c.call c.answer) (slice_get calls i) entry.Element
entry_at calls pieces (Append k i) =
    option_map_or (λ p. entry.Script (AppendBuffer k p) Done) (slice_get pieces i) entry.Element
entry_at calls pieces (Listener number i) =
    option_map_or (λ c. entry.Listener number c.call c.answer) (slice_get calls i) entry.Element
entry_at calls pieces (Fired event) = entry.Fired event
entry_at calls pieces (Work k count) = entry.Work k
entry_at calls pieces Element = entry.Element

-- the index that a place names lies inside the list
abbrev pub IsPlaceInside : List AnsweredCall → List Piece → EntryPlace → Type 0
IsPlaceInside calls pieces (Step n) = ⊤
IsPlaceInside calls pieces (Script i) = i < length calls
IsPlaceInside calls pieces (Append k i) = i < length pieces
IsPlaceInside calls pieces (Listener number i) = i < length calls
IsPlaceInside calls pieces (Fired event) = ⊤
IsPlaceInside calls pieces (Work k count) = ⊤
IsPlaceInside calls pieces Element = ⊤

-- how many entries have the place
abbrev pub count_of : EntryPlace → ℕ
count_of (Step n) = 1
count_of (Script i) = 1
count_of (Append k i) = 1
count_of (Listener number i) = 1
count_of (Fired event) = 1
count_of (Work k count) = count
count_of Element = 1

-- the entries at places: that of each place, as often as it counts
abbrev pub entries_at : List AnsweredCall → List Piece → List EntryPlace → List Entry
entries_at calls pieces places =
    flat_map (λ place. replicate (count_of place) (entry_at calls pieces place)) places

-- a list begins with another
abbrev pub IsExtension : {X : Type 0} → List X → List X → Type 0
IsExtension {X} old new = (more : List X) × (new ≡ old ++ more)
