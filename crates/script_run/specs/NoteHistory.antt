-- What a journal tells of each listener: for each event that was fired, in order, the listener
-- heard it, made its calls, was told their answers, and rested.
use Rattle.std.specs.Prelude.{◌≡◌, ◌<◌, ℕ, List, [], ◌∷◌, ◌++◌, length}
use Rattle.mse_calls.specs.declared.entry.Entry.{Entry}
use Rattle.mse_calls.specs.declared.entry.Entry.TheVariants.{Fired}
use Rattle.run_steps.specs.declared.note.Note.{Note}
use Rattle.listeners.specs.Notes.{event_notes}
use Rattle.listeners.specs.Dispatch.{notes_at}

-- the entries before the next event
abbrev pub entries_until_event : List Entry → List Entry
entries_until_event [] = []
entries_until_event (Fired event ∷ entries) = []
entries_until_event (other ∷ entries) = other ∷ entries_until_event entries

-- the notes of listener `w`: one part for each event, of the calls between it and the next
abbrev pub note_history : ℕ → List Entry → List Note
note_history w [] = []
note_history w (Fired event ∷ entries) =
    event_notes event w (entries_until_event entries) ++ note_history w entries
note_history w (other ∷ entries) = note_history w entries

-- the notes of each listener grew by what the journal tells of it
pub record IsAllHeard (entries : List Entry) (old new : List (List Note)) : Type 0 where
  pub count : length new ≡ length old
  pub notes : (w : ℕ) → w < length old → notes_at new w ≡ notes_at old w ++ note_history w entries
