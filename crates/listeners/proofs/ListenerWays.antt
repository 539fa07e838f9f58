-- What listeners do stays by their ways.
use Rattle.std.proofs.Common.{◌≡◌, ℕ, zero, suc, ◌<◌, arith, ◌⊎◌, List, [], ◌∷◌, ◌++◌, refl, ap, sym, subst, append_assoc, inl, inr, length, get_or, map, ◌∙◌}
use Rattle.std.specs.Prelude.{Option, Some, None, Result, Ok, Err, OnOk, OnErr, IfOk, slice_set}
use Rattle.std.proofs.lemmas.List.{append-nil}
use Rattle.mse_calls.specs.declared.answers.Answer.{Answer}
use Rattle.mse_calls.specs.declared.calls.Call.{Call}
use Rattle.mse_calls.specs.declared.events.Event.{Event}
use Rattle.mse_calls.specs.declared.rules.Rule.{Rule}
use Rattle.run_steps.specs.declared.note.Note.{Note}
use Rattle.run_steps.specs.declared.note.Note.TheVariants.{Heard, Made, Told, Rested}
use Rattle.listeners.specs.Dispatch.{notes_at}
use Rattle.listeners.specs.Notes.{told_note, asked_note}
use Rattle.listeners.specs.Ways.{IsAnswerOf, IsByWay, AreByWay}
use Rattle.run_steps.specs.Ways.{Way}

-- a note among some and one more is among them, or that one
split_last : (xs before after : List Note) (x n : Note) → xs ++ x ∷ [] ≡ before ++ n ∷ after
    → ((x ≡ n) × (xs ≡ before)) ⊎ ((rest : List Note) × (xs ≡ before ++ n ∷ rest))
split_last [] [] after x n e = inl (cc, refl)
split_last [] (b ∷ []) after x n e = absurd (cc)
split_last [] (b ∷ (c ∷ before)) after x n e = absurd (cc)
split_last (y ∷ xs) [] after x n e = let same : y ≡ n = cc in inr (xs, ap (λ (m : Note). m ∷ xs) same)
split_last (y ∷ xs) (b ∷ before) after x n e =
    let same : y ≡ b = cc in
    let rest : xs ++ x ∷ [] ≡ before ++ n ∷ after = cc in
    elim (split_last xs before after x n rest) [
      | inl p ↦ inl (p.0, rw (same, p.1) refl)
      | inr q ↦ inr (q.0, rw (same, q.1) refl)
    ]

-- one note more, which is by the way where it is an answer
by_one : (way : Option Way) (rs : List Rule) (ns : List Note) (x : Note)
    → ((answer : Option Call) → asked_note answer ≡ x ∷ [] → IsAnswerOf way rs ns answer)
    → IsByWay way rs ns → IsByWay way rs (ns ++ x ∷ [])
by_one way rs ns x last h before after None e =
    elim (split_last ns before after x Rested e) [
      | inl p ↦ subst (λ m. IsAnswerOf way rs m None) p.1 (last None (ap (λ (n : Note). n ∷ []) (sym p.0)))
      | inr q ↦ h before q.0 None q.1
    ]
by_one way rs ns x last h before after (Some call) e =
    elim (split_last ns before after x (Made call) e) [
      | inl p ↦ subst (λ m. IsAnswerOf way rs m (Some call)) p.1 (last (Some call) (ap (λ (n : Note). n ∷ []) (sym p.0)))
      | inr q ↦ h before q.0 (Some call) q.1
    ]

no_answer_heard : (answer : Option Call) (event : Event) → asked_note answer ≡ Heard event ∷ [] → ⊥
no_answer_heard None event e = cc
no_answer_heard (Some call) event e = cc

no_answer_told : (answer : Option Call) (told : Answer) → asked_note answer ≡ Told told ∷ [] → ⊥
no_answer_told None told e = cc
no_answer_told (Some call) told e = cc

heard_by : (way : Option Way) (rs : List Rule) (ns : List Note) (event : Event) → IsByWay way rs ns → IsByWay way rs (ns ++ Heard event ∷ [])
heard_by way rs ns event h = by_one way rs ns (Heard event) (λ answer e. absurd (no_answer_heard answer event e)) h

-- what was answered is by the way
answered_by : (way : Option Way) (rs : List Rule) (ns : List Note) (call : Option Call) → IsAnswerOf way rs ns call → IsByWay way rs ns → IsByWay way rs (ns ++ asked_note call)
answered_by way rs ns None is h = by_one way rs ns Rested last h
  where
    last : (answer : Option Call) → asked_note answer ≡ Rested ∷ [] → IsAnswerOf way rs ns answer
    last None e = is
    last (Some call) e = absurd (cc)
answered_by way rs ns (Some call) is h = by_one way rs ns (Made call) last h
  where
    last : (answer : Option Call) → asked_note answer ≡ Made call ∷ [] → IsAnswerOf way rs ns answer
    last None e = absurd (cc)
    last (Some other) e = let same : call ≡ other = cc in subst (λ c. IsAnswerOf way rs ns (Some c)) same is

asked_by : (way : Option Way) (rs : List Rule) (ns : List Note) (told : Option Answer) (call : Option Call) → IsAnswerOf way rs (ns ++ told_note told) call
    → IsByWay way rs ns → IsByWay way rs (ns ++ (told_note told ++ asked_note call))
asked_by way rs ns None call is h = answered_by way rs ns call (rw append-nil at is) h
asked_by way rs ns (Some answer) call is h =
    subst (λ m. IsByWay way rs m) (append_assoc ns (Told answer ∷ []) (asked_note call))
    (answered_by way rs (ns ++ Told answer ∷ []) call is
    (by_one way rs ns (Told answer) (λ a e. absurd (no_answer_told a answer e)) h))

-- it heard an event, or had no memory
pub heard_kept : {E : Type 0} (w0 w1 : Option Way) (r0 r1 : List Rule) (n0 n1 : List Note) (event : Event) (result : Result (Unit {0}) E) → w1 ≡ w0 → r1 ≡ r0
    → OnOk result (n1 ≡ n0 ++ Heard event ∷ []) → OnErr result (n1 ≡ n0) → IsByWay w0 r0 n0 → IsByWay w1 r1 n1
heard_kept w0 w1 r0 r1 n0 n1 event (Ok u) w r ok err h = rw (w, r, ok) (heard_by w0 r0 n0 event h)
heard_kept w0 w1 r0 r1 n0 n1 event (Err e) w r ok err h = rw (w, r, err) h

-- it heard an event and rested, with no call to make
pub idle_kept : (w0 w1 : Option Way) (r0 r1 : List Rule) (n0 n1 : List Note) (event : Event) → w1 ≡ w0 → r1 ≡ r0
    → n1 ≡ n0 ++ Heard event ∷ Rested ∷ [] → IsAnswerOf w0 r0 (n0 ++ Heard event ∷ []) None → IsByWay w0 r0 n0 → IsByWay w1 r1 n1
idle_kept w0 w1 r0 r1 n0 n1 event w r idle by h =
    rw (w, r, idle)
    (subst (λ m. IsByWay w0 r0 m) (append_assoc n0 (Heard event ∷ []) (Rested ∷ []))
    (answered_by w0 r0 (n0 ++ Heard event ∷ []) None by (heard_by w0 r0 n0 event h)))

-- nothing happened to it
pub same_kept : (w0 w1 : Option Way) (r0 r1 : List Rule) (n0 n1 : List Note) → w1 ≡ w0 → r1 ≡ r0 → n1 ≡ n0 → IsByWay w0 r0 n0 → IsByWay w1 r1 n1
same_kept w0 w1 r0 r1 n0 n1 w r n h = rw (w, r, n) h

-- it was asked, or had no memory
pub asked_kept : {E : Type 0} (w0 w1 : Option Way) (r0 r1 : List Rule) (n0 n1 : List Note) (told : Option Answer) (result : Result (Option Call) E) → w1 ≡ w0 → r1 ≡ r0
    → IfOk result (λ call. n1 ≡ n0 ++ (told_note told ++ asked_note call)) → IfOk result (λ call. IsAnswerOf w0 r0 (n0 ++ told_note told) call) → OnErr result (n1 ≡ n0)
    → IsByWay w0 r0 n0 → IsByWay w1 r1 n1
asked_kept w0 w1 r0 r1 n0 n1 told (Ok call) w r ok by err h = rw (w, r, ok) (asked_by w0 r0 n0 told call by h)
asked_kept w0 w1 r0 r1 n0 n1 told (Err e) w r ok by err h = rw (w, r, err) h

-- ---- all listeners

-- the listener at a place does so
pub by_way_set : {X : Type 0} (way : X → Option Way) (rules : X → List Rule) (notes : X → List Note) (xs : List X) (w : ℕ) (old new : X) → w < length xs → old ≡ get_or xs w old
    → (IsByWay (way old) (rules old) (notes old) → IsByWay (way new) (rules new) (notes new)) → AreByWay way rules notes xs → AreByWay way rules notes (slice_set xs w new)
by_way_set way rules notes [] w old new lt is kept h = absurd (omega (arith, lt))
by_way_set way rules notes (x ∷ xs) zero old new lt is kept h = (kept (subst (λ y. IsByWay (way y) (rules y) (notes y)) (sym is) h.0), h.1)
by_way_set way rules notes (x ∷ xs) (suc w) old new lt is kept h = (h.0, by_way_set way rules notes xs w old new (omega (arith, lt)) is kept h.1)

no_split : (before after : List Note) (answer : Option Call) → [] ≡ before ++ (asked_note answer ++ after) → ⊥
no_split [] after None e = cc
no_split [] after (Some call) e = cc
no_split (x ∷ before) after answer e = cc

-- listeners without notes did nothing
pub unheard_by_way : {X : Type 0} (way : X → Option Way) (rules : X → List Rule) (notes : X → List Note) (xs : List X) → ((w : ℕ) → notes_at (map notes xs) w ≡ [])
    → AreByWay way rules notes xs
unheard_by_way way rules notes [] none = tt
unheard_by_way way rules notes (x ∷ xs) none =
    (λ before after answer split. absurd (no_split before after answer (sym (none 0) ∙ split)), unheard_by_way way rules notes xs (λ w. none (suc w)))
