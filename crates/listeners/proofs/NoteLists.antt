-- What notes say, put together.
use Rattle.std.proofs.Common.{◌≡◌, List, [], ◌∷◌, ◌++◌, refl, ap, ◌∙◌}
use Rattle.std.specs.Prelude.{Option, Some, None}
use Rattle.std.proofs.lemmas.List.{append-nil}
use Rattle.mse_calls.specs.declared.answers.Answer.{Answer}
use Rattle.mse_calls.specs.declared.calls.Call.{Call}
use Rattle.mse_calls.specs.declared.events.Event.{Event}
use Rattle.run_steps.specs.declared.note.Note.{Note}
use Rattle.run_steps.specs.declared.note.Note.TheVariants.{Heard, Made, Told, Rested}
use Rattle.mse_calls.specs.declared.rules.Rule.{Rule}
use Rattle.listeners.specs.Notes.{told_note, heard_of, calls_made}
use Rattle.listeners.specs.RuleCalls.{next_call}

pub heard_append : (xs ys : List Note) → heard_of (xs ++ ys) ≡ heard_of xs ++ heard_of ys
heard_append [] ys = refl
heard_append (Heard event ∷ xs) ys = ap (λ (es : List Event). event ∷ es) (heard_append xs ys)
heard_append (Made call ∷ xs) ys = heard_append xs ys
heard_append (Told answer ∷ xs) ys = heard_append xs ys
heard_append (Rested ∷ xs) ys = heard_append xs ys

pub made_append : (xs ys : List Note) → calls_made (xs ++ ys) ≡ calls_made xs ++ calls_made ys
made_append [] ys = refl
made_append (Heard event ∷ xs) ys = made_append xs ys
made_append (Made call ∷ xs) ys = ap (λ (cs : List Call). call ∷ cs) (made_append xs ys)
made_append (Told answer ∷ xs) ys = made_append xs ys
made_append (Rested ∷ xs) ys = made_append xs ys

told_heard : (told : Option Answer) (notes : List Note) → heard_of (told_note told ++ notes) ≡ heard_of notes
told_heard None notes = refl
told_heard (Some answer) notes = refl

told_made : (told : Option Answer) (notes : List Note) → calls_made (told_note told ++ notes) ≡ calls_made notes
told_made None notes = refl
told_made (Some answer) notes = refl

pub heard_more : (notes : List Note) (event : Event) → heard_of (notes ++ Heard event ∷ []) ≡ heard_of notes ++ event ∷ []
heard_more notes event = heard_append notes (Heard event ∷ [])

pub heard_made : (notes : List Note) (event : Event) → calls_made (notes ++ Heard event ∷ []) ≡ calls_made notes
heard_made notes event = made_append notes (Heard event ∷ []) ∙ append-nil (calls_made notes)

pub rested_heard : (notes : List Note) (told : Option Answer) → heard_of (notes ++ (told_note told ++ Rested ∷ [])) ≡ heard_of notes
rested_heard notes told =
    heard_append notes (told_note told ++ Rested ∷ []) ∙ (ap (λ (es : List Event). heard_of notes ++ es) (told_heard told (Rested ∷ [])) ∙ append-nil (heard_of notes))

pub rested_made : (notes : List Note) (told : Option Answer) → calls_made (notes ++ (told_note told ++ Rested ∷ [])) ≡ calls_made notes
rested_made notes told =
    made_append notes (told_note told ++ Rested ∷ []) ∙ (ap (λ (cs : List Call). calls_made notes ++ cs) (told_made told (Rested ∷ [])) ∙ append-nil (calls_made notes))

pub made_heard : (notes : List Note) (told : Option Answer) (call : Call) → heard_of (notes ++ (told_note told ++ Made call ∷ [])) ≡ heard_of notes
made_heard notes told call =
    heard_append notes (told_note told ++ Made call ∷ []) ∙ (ap (λ (es : List Event). heard_of notes ++ es) (told_heard told (Made call ∷ [])) ∙ append-nil (heard_of notes))

pub made_made : (notes : List Note) (told : Option Answer) (call : Call) → calls_made (notes ++ (told_note told ++ Made call ∷ [])) ≡ calls_made notes ++ call ∷ []
made_made notes told call =
    made_append notes (told_note told ++ Made call ∷ []) ∙ ap (λ (cs : List Call). calls_made notes ++ cs) (told_made told (Made call ∷ []))

-- what a listener by rules answers does not depend on what it is told
pub told_next : (rules : List Rule) (notes : List Note) (told : Option Answer) → next_call rules (notes ++ told_note told) ≡ next_call rules notes
unfolding next_call
told_next rules notes None = rw append-nil refl
told_next rules notes (Some answer) = rw (heard, made) refl
  where
    heard : heard_of (notes ++ Told answer ∷ []) ≡ heard_of notes
    heard = heard_append notes (Told answer ∷ []) ∙ append-nil (heard_of notes)

    made : calls_made (notes ++ Told answer ∷ []) ≡ calls_made notes
    made = made_append notes (Told answer ∷ []) ∙ append-nil (calls_made notes)
