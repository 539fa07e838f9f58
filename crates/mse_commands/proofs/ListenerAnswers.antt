-- What a listener answers, note after note.
use Rattle.std.proofs.Common.{◌≡◌, List, [], ◌∷◌, ◌++◌, refl, sym, subst, append_assoc}
use Rattle.std.specs.Prelude.{Option, Some, None, ⊤}
use Rattle.std.proofs.lemmas.List.{append-nil}
use Rattle.mse_calls.specs.declared.calls.Call.{Call}
use Rattle.listeners.specs.Notes.{asked_note}
use Rattle.run_steps.specs.declared.note.Note.{Note}
use Rattle.run_steps.specs.declared.note.Note.TheVariants.{Heard, Made, Told, Rested}

-- the call that is answered after some notes; none where there is no further one
abbrev pub Answering : Type 0
Answering = List Note → Option Call

-- of the notes behind those of the past, each call is what is answered after the notes before it, and at each rest nothing is answered
abbrev pub AreAnswers : Answering → List Note → List Note → Type 0
AreAnswers answers past [] = ⊤
AreAnswers answers past (Heard event ∷ notes) = AreAnswers answers (past ++ Heard event ∷ []) notes
AreAnswers answers past (Made call ∷ notes) = (answers past ≡ Some call) × AreAnswers answers (past ++ Made call ∷ []) notes
AreAnswers answers past (Told answer ∷ notes) = AreAnswers answers (past ++ Told answer ∷ []) notes
AreAnswers answers past (Rested ∷ notes) = (answers past ≡ None) × AreAnswers answers (past ++ Rested ∷ []) notes

-- the same of all notes, as a listener by its way has it
abbrev pub AreAllAnswers : Answering → List Note → Type 0
AreAllAnswers answers notes = (before after : List Note) (answer : Option Call) → notes ≡ before ++ (asked_note answer ++ after) → answer ≡ answers before

one_on : (answers : Answering) (past : List Note) (note : Note) (notes : List Note) → AreAllAnswers answers (past ++ note ∷ notes) → AreAllAnswers answers ((past ++ note ∷ []) ++ notes)
one_on answers past note notes a = subst (λ ns. AreAllAnswers answers ns) (sym (append_assoc past (note ∷ []) notes)) a

pub all_answers : (answers : Answering) (past notes : List Note) → AreAllAnswers answers (past ++ notes) → AreAnswers answers past notes
all_answers answers past [] a = tt
all_answers answers past (Heard event ∷ notes) a = all_answers answers (past ++ Heard event ∷ []) notes (one_on answers past (Heard event) notes a)
all_answers answers past (Made call ∷ notes) a = (sym (a past notes (Some call) refl), all_answers answers (past ++ Made call ∷ []) notes (one_on answers past (Made call) notes a))
all_answers answers past (Told answer ∷ notes) a = all_answers answers (past ++ Told answer ∷ []) notes (one_on answers past (Told answer) notes a)
all_answers answers past (Rested ∷ notes) a = (sym (a past notes None refl), all_answers answers (past ++ Rested ∷ []) notes (one_on answers past Rested notes a))

-- answers in two parts
pub answers_parts : (answers : Answering) (past xs ys : List Note) → AreAnswers answers past (xs ++ ys) → AreAnswers answers past xs × AreAnswers answers (past ++ xs) ys
answers_parts answers past [] ys a = (tt, subst (λ ns. AreAnswers answers ns ys) (sym (append-nil past)) a)
answers_parts answers past (Heard event ∷ xs) ys a = let p = answers_parts answers (past ++ Heard event ∷ []) xs ys a in (p.0, subst (λ ns. AreAnswers answers ns ys) (append_assoc past (Heard event ∷ []) xs) p.1)
answers_parts answers past (Made call ∷ xs) ys a = let p = answers_parts answers (past ++ Made call ∷ []) xs ys a.1 in ((a.0, p.0), subst (λ ns. AreAnswers answers ns ys) (append_assoc past (Made call ∷ []) xs) p.1)
answers_parts answers past (Told answer ∷ xs) ys a = let p = answers_parts answers (past ++ Told answer ∷ []) xs ys a in (p.0, subst (λ ns. AreAnswers answers ns ys) (append_assoc past (Told answer ∷ []) xs) p.1)
answers_parts answers past (Rested ∷ xs) ys a = let p = answers_parts answers (past ++ Rested ∷ []) xs ys a.1 in ((a.0, p.0), subst (λ ns. AreAnswers answers ns ys) (append_assoc past (Rested ∷ []) xs) p.1)
