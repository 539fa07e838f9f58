-- What a listener answers, where it tells that.
use Rattle.std.specs.Prelude.{◌≡◌, List, [], ◌∷◌, ◌++◌, Option, IfSome, ⊤}
use Rattle.mse_calls.specs.declared.calls.Call.{Call}
use Rattle.mse_calls.specs.declared.rules.Rule.{Rule}
use Rattle.run_steps.specs.declared.note.Note.{Note}
use Rattle.run_steps.specs.Ways.{Way}
use Rattle.listeners.specs.Notes.{asked_note}

-- what is answered is what the way gives, where a way is told
abbrev pub IsAnswerOf : Option Way → List Rule → List Note → Option Call → Type 0
IsAnswerOf way rules notes answer = IfSome way (λ gives. answer ≡ gives rules notes)

-- of a listener with this way, these rules and these notes: each call that it made, and each rest, is what its way gives
-- after the notes before it
abbrev pub IsByWay : Option Way → List Rule → List Note → Type 0
IsByWay way rules notes = (before after : List Note) (answer : Option Call)
    → notes ≡ before ++ (asked_note answer ++ after) → IsAnswerOf way rules before answer

-- so it is with each of these listeners, by what is seen of one
abbrev pub AreByWay : {A : Type 0} → (A → Option Way) → (A → List Rule) → (A → List Note) → List A
    → Type 0
AreByWay way rules notes [] = ⊤
AreByWay way rules notes (one ∷ others) =
    IsByWay (way one) (rules one) (notes one) × AreByWay way rules notes others
