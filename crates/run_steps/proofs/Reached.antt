-- Steps of a run, one after another, and what happened then.
use Rattle.std.proofs.Common.{◌≡◌, ◌≢◌, ℕ, zero, suc, true, List, [], ◌∷◌, ◌++◌, refl, ap, sym, subst, ◌∙◌, inl, inr, ne_eqb}
use Rattle.std.specs.Prelude.{◌==◌}
use Rattle.std.proofs.lemmas.Bool.Decides.{eqb_tells}
use Rattle.std.proofs.lemmas.List.{append-nil}
use Rattle.std.proofs.lemmas.List.Elements.{filter_map-append}
use Rattle.mse_calls.specs.declared.entry.Entry.{Entry}
use Rattle.run_steps.specs.declared.note.Note.{Note}
use Rattle.run_steps.specs.Happenings.{Happening, Did, Noted, Put, entry_in, note_in, line_in, entries_in, notes_in, lines_put}
use Rattle.run_steps.specs.Steps.{Run, run_for, stepped, Reaches}
use Rattle.run_steps.specs.Ways.{Way}

-- ---- steps

pub then_by : (k : ℕ) (ways : List Way) (a b c : Run) → run_for k ways a ≡ b → Reaches ways b c → Reaches ways a c
then_by zero ways a b c e q = subst (λ x. Reaches ways x c) (sym e) q
then_by (suc k) ways a b c e q = let r = then_by k ways (stepped ways a) b c e q in (suc r.0, r.1)

pub then : (ways : List Way) (a b c : Run) → Reaches ways a b → Reaches ways b c → Reaches ways a c
then ways a b c p q = then_by p.0 ways a b c p.1 q

-- ---- what happened

pub entry_last : (h : List Happening) (x : Happening) → entries_in (h ++ x ∷ []) ≡ entries_in h ++ entries_in (x ∷ [])
entry_last h x = filter_map-append entry_in h (x ∷ [])

pub lines_last : (h : List Happening) (x : Happening) → lines_put (h ++ x ∷ []) ≡ lines_put h ++ lines_put (x ∷ [])
lines_last h x = filter_map-append line_in h (x ∷ [])

pub same_number : (w : ℕ) → (w == w) ≡ true
same_number w = elim (eqb_tells w w) [ inl t ↦ t.0 | inr t ↦ absurd (t.1 refl) ]

own_note : (w : ℕ) (note : Note) → notes_in w (Noted w note ∷ []) ≡ note ∷ []
own_note w note = rw (same_number w) refl

other_note : (w v : ℕ) (note : Note) → v ≢ w → notes_in v (Noted w note ∷ []) ≡ []
other_note w v note ne = rw (ne_eqb w v (λ e. ne (sym e))) refl

pub noted : (w : ℕ) (h : List Happening) (note : Note) → notes_in w (h ++ Noted w note ∷ []) ≡ notes_in w h ++ note ∷ []
noted w h note = filter_map-append (note_in w) h (Noted w note ∷ []) ∙ ap (λ ns. notes_in w h ++ ns) (own_note w note)

pub noted_other : (w v : ℕ) (h : List Happening) (note : Note) → v ≢ w → notes_in v (h ++ Noted w note ∷ []) ≡ notes_in v h
noted_other w v h note ne = filter_map-append (note_in v) h (Noted w note ∷ []) ∙ ap (λ ns. notes_in v h ++ ns) (other_note w v note ne) ∙ append-nil (notes_in v h)

pub did_notes : (v : ℕ) (h : List Happening) (entry : Entry) → notes_in v (h ++ Did entry ∷ []) ≡ notes_in v h
did_notes v h entry = filter_map-append (note_in v) h (Did entry ∷ []) ∙ append-nil (notes_in v h)

pub put_notes : (v : ℕ) (h : List Happening) (line : List ℕ) → notes_in v (h ++ Put line ∷ []) ≡ notes_in v h
put_notes v h line = filter_map-append (note_in v) h (Put line ∷ []) ∙ append-nil (notes_in v h)
