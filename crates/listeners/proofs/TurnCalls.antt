-- The calls of one listener for an event, with what it answered: as entries, as notes, and in what happened.
use Rattle.std.proofs.Common.{◌≡◌, ◌≢◌, ℕ, suc, ◌+◌, List, [], ◌∷◌, ◌++◌, length, refl, ap, sym, subst, ◌∙◌, arith, inl, inr, append_assoc}
use Rattle.std.specs.Prelude.{◌==◌, Option, Some, None, ⊤, cond}
use Rattle.std.proofs.lemmas.Bool.{cases_eq}
use Rattle.std.proofs.lemmas.Bool.Decides.{eqb_tells}
use Rattle.std.proofs.lemmas.List.{append-nil}
use Rattle.std.proofs.lemmas.List.Sums.{sum_by-cons}
use Rattle.std.proofs.lemmas.List.Concat.{flat_map-cons}
use Rattle.mse_calls.specs.declared.answers.Answer.{Answer}
use Rattle.mse_calls.specs.declared.calls.Call.{Call}
use Rattle.mse_calls.specs.declared.entry.Entry.{Entry}
use Rattle.mse_calls.specs.declared.entry.Entry.TheVariants.{Step, Script, Listener, Fired, Work, Element}
use Rattle.mse_engine.specs.State.{State}
use Rattle.mse_engine.specs.Run.{entry_meaning, after_entries, IsReplay}
use Rattle.run_steps.specs.declared.note.Note.{Note}
use Rattle.run_steps.specs.declared.note.Note.TheVariants.{Heard, Made, Told, Rested}
use Rattle.run_steps.specs.Happenings.{Happening, Did, Noted, entries_in, notes_in, lines_put}
use Rattle.run_steps.proofs.Reached.{entry_last, lines_last, noted, noted_other, did_notes}
use Rattle.listeners.specs.Dispatch.{AreCallsInTurn}
use Rattle.listeners.specs.Notes.{asked_note, entry_notes, is_call_of, call_notes, call_count}

-- ---- what is answered

-- the call that is answered after some notes; none where there is no further one
abbrev pub Answering : Type 0
Answering = List Note → Option Call

-- of the notes behind those of the past, each call is what is answered after the notes before it, and at each rest nothing is answered
abbrev pub AreAnswers : Answering → List Note → List Note → Type 0
AreAnswers answers past [] = ⊤
AreAnswers answers past (Heard event ∷ notes) = AreAnswers answers (past ++ Heard event ∷ []) notes
AreAnswers answers past (Made call ∷ notes) = (answers past ≡ Some call) × AreAnswers answers (past ++ Made call ∷ []) notes
AreAnswers answers past (Told answer ∷ notes) = AreAnswers answers (past ++ Told answer ∷ []) notes
AreAnswers answers past (Rested ∷ notes) = (answers past ≡ None) × AreAnswers answers (past ++ Rested ∷ []) notes

-- the same of all notes, as a listener by its way has it
abbrev pub AreAllAnswers : Answering → List Note → Type 0
AreAllAnswers answers notes = (before after : List Note) (answer : Option Call) → notes ≡ before ++ (asked_note answer ++ after) → answer ≡ answers before

one_on : (answers : Answering) (past : List Note) (note : Note) (notes : List Note) → AreAllAnswers answers (past ++ note ∷ notes) → AreAllAnswers answers ((past ++ note ∷ []) ++ notes)
one_on answers past note notes a = subst (λ ns. AreAllAnswers answers ns) (sym (append_assoc past (note ∷ []) notes)) a

pub all_answers : (answers : Answering) (past notes : List Note) → AreAllAnswers answers (past ++ notes) → AreAnswers answers past notes
all_answers answers past [] a = tt
all_answers answers past (Heard event ∷ notes) a = all_answers answers (past ++ Heard event ∷ []) notes (one_on answers past (Heard event) notes a)
all_answers answers past (Made call ∷ notes) a = (sym (a past notes (Some call) refl), all_answers answers (past ++ Made call ∷ []) notes (one_on answers past (Made call) notes a))
all_answers answers past (Told answer ∷ notes) a = all_answers answers (past ++ Told answer ∷ []) notes (one_on answers past (Told answer) notes a)
all_answers answers past (Rested ∷ notes) a = (sym (a past notes None refl), all_answers answers (past ++ Rested ∷ []) notes (one_on answers past Rested notes a))

-- answers in two parts
pub answers_parts : (answers : Answering) (past xs ys : List Note) → AreAnswers answers past (xs ++ ys) → AreAnswers answers past xs × AreAnswers answers (past ++ xs) ys
answers_parts answers past [] ys a = (tt, subst (λ ns. AreAnswers answers ns ys) (sym (append-nil past)) a)
answers_parts answers past (Heard event ∷ xs) ys a = let p = answers_parts answers (past ++ Heard event ∷ []) xs ys a in (p.0, subst (λ ns. AreAnswers answers ns ys) (append_assoc past (Heard event ∷ []) xs) p.1)
answers_parts answers past (Made call ∷ xs) ys a = let p = answers_parts answers (past ++ Made call ∷ []) xs ys a.1 in ((a.0, p.0), subst (λ ns. AreAnswers answers ns ys) (append_assoc past (Made call ∷ []) xs) p.1)
answers_parts answers past (Told answer ∷ xs) ys a = let p = answers_parts answers (past ++ Told answer ∷ []) xs ys a in (p.0, subst (λ ns. AreAnswers answers ns ys) (append_assoc past (Told answer ∷ []) xs) p.1)
answers_parts answers past (Rested ∷ xs) ys a = let p = answers_parts answers (past ++ Rested ∷ []) xs ys a.1 in ((a.0, p.0), subst (λ ns. AreAnswers answers ns ys) (append_assoc past (Rested ∷ []) xs) p.1)

-- ---- entries and notes

-- the entries and the notes of calls with their answers
abbrev pub made_entries : ℕ → List (Call × Answer) → List Entry
made_entries w [] = []
made_entries w (m ∷ ms) = Listener w m.0 m.1 ∷ made_entries w ms

abbrev pub made_notes : List (Call × Answer) → List Note
made_notes [] = []
made_notes (m ∷ ms) = Made m.0 ∷ Told m.1 ∷ made_notes ms

-- the calls of listener w come first, and behind them those of later ones
abbrev pub IsSplit : ℕ → ℕ → List Entry → Type 0
IsSplit w high es = (ms : List (Call × Answer)) × (rest : List Entry) × (es ≡ made_entries w ms ++ rest) × AreCallsInTurn (suc w) high rest

pub split_turn : (w high : ℕ) (es : List Entry) → AreCallsInTurn w high es → IsSplit w high es
split_turn w high [] a = ([], [], refl, tt)
split_turn w high (Listener v call answer ∷ es) a = elim (cases_eq v w) [
  | inl e ↦
      let s = split_turn w high es (subst (λ x. AreCallsInTurn x high es) e a.2) in
      ((call, answer) ∷ s.0, s.1, ap (λ (x : ℕ). Listener x call answer ∷ es) e ∙ ap (λ (xs : List Entry). Listener w call answer ∷ xs) s.2, s.3)
  | inr ne ↦ ([], Listener v call answer ∷ es, refl, (omega (arith, a.0, ne), a.1, a.2))
]
split_turn w high (Step n ∷ es) a = absurd a
split_turn w high (Script call answer ∷ es) a = absurd a
split_turn w high (Fired event ∷ es) a = absurd a
split_turn w high (Work k ∷ es) a = absurd a
split_turn w high (Element ∷ es) a = absurd a

one_note : (w v : ℕ) (call : Call) (answer : Answer) (es : List Entry) → call_notes w (Listener v call answer ∷ es) ≡ entry_notes w (Listener v call answer) ++ call_notes w es
one_note w v call answer es = flat_map-cons (entry_notes w) (Listener v call answer) es

pub own_of_made : (w : ℕ) (ms : List (Call × Answer)) (rest : List Entry) → call_notes w (made_entries w ms ++ rest) ≡ made_notes ms ++ call_notes w rest
own_of_made w [] rest = refl
own_of_made w (m ∷ ms) rest = elim (eqb_tells w w) [
  | inl t ↦ one_note w w m.0 m.1 (made_entries w ms ++ rest) ∙ rw t.0 (ap (λ (ns : List Note). Made m.0 ∷ Told m.1 ∷ ns) (own_of_made w ms rest))
  | inr t ↦ absurd (t.1 refl)
]

pub one_more : (k v : ℕ) (call : Call) (answer : Answer) (es : List Entry) → call_count k (Listener v call answer ∷ es) ≡ cond (v == k) 1 0 + call_count k es
one_more k v call answer es = sum_by-cons (λ e. cond (is_call_of k e) 1 0) (Listener v call answer) es

pub no_turn : (w : ℕ) (es : List Entry) → AreCallsInTurn w (w + 0) es → es ≡ []
no_turn w [] a = refl
no_turn w (Listener v call answer ∷ es) a = absurd (omega (arith, a.0, a.1))
no_turn w (Step n ∷ es) a = absurd a
no_turn w (Script call answer ∷ es) a = absurd a
no_turn w (Fired event ∷ es) a = absurd a
no_turn w (Work k ∷ es) a = absurd a
no_turn w (Element ∷ es) a = absurd a

pub replays_parts : (blobs : List (List ℕ)) (st : State) (xs ys : List Entry) → IsReplay blobs st (xs ++ ys) → IsReplay blobs st xs × IsReplay blobs (after_entries blobs st xs) ys
replays_parts blobs st [] ys r = (tt, r)
replays_parts blobs st (x ∷ xs) ys r = let p = replays_parts blobs (entry_meaning blobs st x).state xs ys r.1 in ((r.0, p.0), p.1)

pub after_both : (blobs : List (List ℕ)) (st : State) (xs ys : List Entry) → after_entries blobs st (xs ++ ys) ≡ after_entries blobs (after_entries blobs st xs) ys
after_both blobs st [] ys = refl
after_both blobs st (x ∷ xs) ys = after_both blobs (entry_meaning blobs st x).state xs ys

pub length_made : (w : ℕ) (ms : List (Call × Answer)) → length (made_entries w ms) ≡ length ms
length_made w [] = refl
length_made w (m ∷ ms) = ap suc (length_made w ms)

-- ---- what happened

-- it made a call and was told the answer
abbrev pub made_one : ℕ → List Happening → Call → Answer → List Happening
made_one w h call answer = ((h ++ Noted w (Made call) ∷ []) ++ Did (Listener w call answer) ∷ []) ++ Noted w (Told answer) ∷ []

abbrev pub made_on : ℕ → List Happening → List (Call × Answer) → List Happening
made_on w h [] = h
made_on w h (m ∷ ms) = made_on w (made_one w h m.0 m.1) ms

pub one_entries : (w : ℕ) (h : List Happening) (call : Call) (answer : Answer) → entries_in (made_one w h call answer) ≡ entries_in h ++ Listener w call answer ∷ []
one_entries w h call answer =
    entry_last ((h ++ Noted w (Made call) ∷ []) ++ Did (Listener w call answer) ∷ []) (Noted w (Told answer))
    ∙ append-nil (entries_in ((h ++ Noted w (Made call) ∷ []) ++ Did (Listener w call answer) ∷ []))
    ∙ entry_last (h ++ Noted w (Made call) ∷ []) (Did (Listener w call answer))
    ∙ ap (λ es. es ++ Listener w call answer ∷ []) (entry_last h (Noted w (Made call)) ∙ append-nil (entries_in h))

pub one_notes : (w : ℕ) (h : List Happening) (call : Call) (answer : Answer) → notes_in w (made_one w h call answer) ≡ (notes_in w h ++ Made call ∷ []) ++ Told answer ∷ []
one_notes w h call answer =
    noted w ((h ++ Noted w (Made call) ∷ []) ++ Did (Listener w call answer) ∷ []) (Told answer)
    ∙ ap (λ ns. ns ++ Told answer ∷ []) (did_notes w (h ++ Noted w (Made call) ∷ []) (Listener w call answer) ∙ noted w h (Made call))

pub one_others : (w v : ℕ) (h : List Happening) (call : Call) (answer : Answer) → v ≢ w → notes_in v (made_one w h call answer) ≡ notes_in v h
one_others w v h call answer ne =
    noted_other w v ((h ++ Noted w (Made call) ∷ []) ++ Did (Listener w call answer) ∷ []) (Told answer) ne
    ∙ did_notes v (h ++ Noted w (Made call) ∷ []) (Listener w call answer) ∙ noted_other w v h (Made call) ne

pub one_lines : (w : ℕ) (h : List Happening) (call : Call) (answer : Answer) → lines_put (made_one w h call answer) ≡ lines_put h
one_lines w h call answer =
    lines_last ((h ++ Noted w (Made call) ∷ []) ++ Did (Listener w call answer) ∷ []) (Noted w (Told answer))
    ∙ append-nil (lines_put ((h ++ Noted w (Made call) ∷ []) ++ Did (Listener w call answer) ∷ []))
    ∙ lines_last (h ++ Noted w (Made call) ∷ []) (Did (Listener w call answer))
    ∙ append-nil (lines_put (h ++ Noted w (Made call) ∷ []))
    ∙ lines_last h (Noted w (Made call)) ∙ append-nil (lines_put h)

pub on_entries : (w : ℕ) (h : List Happening) (ms : List (Call × Answer)) → entries_in (made_on w h ms) ≡ entries_in h ++ made_entries w ms
on_entries w h [] = sym (append-nil (entries_in h))
on_entries w h (m ∷ ms) =
    on_entries w (made_one w h m.0 m.1) ms ∙ ap (λ es. es ++ made_entries w ms) (one_entries w h m.0 m.1)
    ∙ append_assoc (entries_in h) (Listener w m.0 m.1 ∷ []) (made_entries w ms)

pub on_notes : (w : ℕ) (h : List Happening) (ms : List (Call × Answer)) → notes_in w (made_on w h ms) ≡ notes_in w h ++ made_notes ms
on_notes w h [] = sym (append-nil (notes_in w h))
on_notes w h (m ∷ ms) =
    on_notes w (made_one w h m.0 m.1) ms ∙ ap (λ ns. ns ++ made_notes ms) (one_notes w h m.0 m.1)
    ∙ append_assoc (notes_in w h ++ Made m.0 ∷ []) (Told m.1 ∷ []) (made_notes ms)
    ∙ append_assoc (notes_in w h) (Made m.0 ∷ []) (Told m.1 ∷ made_notes ms)

pub on_others : (w v : ℕ) (h : List Happening) (ms : List (Call × Answer)) → v ≢ w → notes_in v (made_on w h ms) ≡ notes_in v h
on_others w v h [] ne = refl
on_others w v h (m ∷ ms) ne = on_others w v (made_one w h m.0 m.1) ms ne ∙ one_others w v h m.0 m.1 ne

pub on_lines : (w : ℕ) (h : List Happening) (ms : List (Call × Answer)) → lines_put (made_on w h ms) ≡ lines_put h
on_lines w h [] = refl
on_lines w h (m ∷ ms) = on_lines w (made_one w h m.0 m.1) ms ∙ one_lines w h m.0 m.1
