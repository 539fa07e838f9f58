-- What a listener was given, and what it did.
use Rattle.std.specs.Prelude.{ℕ, ◌==◌, Bool, false, List, [], ◌∷◌, ◌++◌, Option, Some, None, if◌then◌else◌}
use Rattle.std.specs.List.{count_by, flat_map}
use Rattle.mse_calls.specs.declared.answers.Answer.{Answer}
use Rattle.mse_calls.specs.declared.calls.Call.{Call}
use Rattle.mse_calls.specs.declared.events.Event.{Event}
use Rattle.mse_calls.specs.declared.entry.Entry.{Entry}
use Rattle.mse_calls.specs.declared.entry.Entry.TheVariants.{Listener}
use Rattle.run_steps.specs.declared.note.Note.{Note}
use Rattle.run_steps.specs.declared.note.Note.TheVariants.{Heard, Made, Told, Rested}

-- the note of the answer that is given, if any
abbrev pub told_note : Option Answer → List Note
told_note None = []
told_note (Some answer) = Told answer ∷ []

-- the note of what was answered
abbrev pub asked_note : Option Call → List Note
asked_note None = Rested ∷ []
asked_note (Some call) = Made call ∷ []

-- the events that were heard, in their order
abbrev pub heard_of : List Note → List Event
heard_of [] = []
heard_of (Heard event ∷ notes) = event ∷ heard_of notes
heard_of (Made call ∷ notes) = heard_of notes
heard_of (Told answer ∷ notes) = heard_of notes
heard_of (Rested ∷ notes) = heard_of notes

-- the calls that were made, in their order
abbrev pub calls_made : List Note → List Call
calls_made [] = []
calls_made (Heard event ∷ notes) = calls_made notes
calls_made (Made call ∷ notes) = call ∷ calls_made notes
calls_made (Told answer ∷ notes) = calls_made notes
calls_made (Rested ∷ notes) = calls_made notes

-- the notes of the calls of listener `w` among these entries: each call, and what it was told
abbrev pub entry_notes : ℕ → Entry → List Note
entry_notes w (Listener v call answer) = if v == w then Made call ∷ Told answer ∷ [] else []
entry_notes w other = []

abbrev pub call_notes : ℕ → List Entry → List Note
call_notes w entries = flat_map (entry_notes w) entries

-- the number of its calls
abbrev pub is_call_of : ℕ → Entry → Bool
is_call_of w (Listener v call answer) = v == w
is_call_of w other = false

abbrev pub call_count : ℕ → List Entry → ℕ
call_count w entries = count_by (is_call_of w) entries

-- the notes of a listener that an event was told, that made its calls, and that then had no further one
abbrev pub event_notes : Event → ℕ → List Entry → List Note
event_notes event w entries = Heard event ∷ (call_notes w entries ++ Rested ∷ [])
