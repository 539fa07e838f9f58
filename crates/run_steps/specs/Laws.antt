-- What is said of the steps of a run.
use Rattle.std.specs.Prelude.{◌≡◌, ◌⊎◌, ℕ, List, [], ◌∷◌, ◌++◌, ⊤}
use Rattle.mse_calls.specs.declared.events.Event.{Event}
use Rattle.run_steps.specs.declared.note.Note.{Note}
use Rattle.run_steps.specs.declared.note.Note.TheVariants.{Heard, Rested}
use Rattle.run_steps.specs.Happenings.{Happening, Noted, notes_in}
use Rattle.run_steps.specs.Steps.{Run, Todo, Ask, Make, Tell, Ended}

-- what happened behind these
abbrev pub IsFrontOf : List Happening → List Happening → Type 0
IsFrontOf front all = (more : List Happening) × (all ≡ front ++ more)

-- it has ended
abbrev pub HasEnded : Run → Type 0
HasEnded r = (status : ℕ) × (r.todo ≡ Ended status ∷ [])

-- no listener's turn is begun
abbrev pub AreAtRest : List Todo → Type 0
AreAtRest [] = ⊤
AreAtRest (Ask w n ∷ todo) = ⊥
AreAtRest (Make w n call ∷ todo) = ⊥
AreAtRest (Tell w n answer ∷ todo) = ⊥
AreAtRest (next ∷ todo) = AreAtRest todo

-- a listener has done nothing, or rested last
abbrev pub IsResting : ℕ → List Happening → Type 0
IsResting w happened =
    (notes_in w happened ≡ []) ⊎ ((notes : List Note) × (notes_in w happened ≡ notes ++ Rested ∷ []))

-- listener w heard this event behind these happenings
abbrev pub IsWhereHeard : ℕ → Event → List Happening → List Happening → List Happening → Type 0
IsWhereHeard w event before after happened = happened ≡ before ++ Noted w (Heard event) ∷ after
