-- A front of the lines of a script.
use Rattle.std.proofs.Common.{◌≡◌, ◌∙◌, ◌+◌, ℕ, suc, List, [], ◌∷◌, ◌++◌, length, ap, append_assoc, arith, inl, inr, refl, subst, sym}
use Rattle.mse_calls.specs.declared.entry.Entry.{Entry}
use Rattle.mse_calls.specs.declared.entry.Entry.TheVariants.{Step}
use Rattle.call_script.specs.declared.script.StepLine.{StepLine}
use Rattle.mse_engine.specs.State.{State}
use Rattle.mse_engine.specs.Run.{after_entries}
use Rattle.mse_engine.proofs.Transitions.{after_entries-append}
use Rattle.script_run.specs.Lines.{PlayInputs}
use Rattle.script_run.specs.Follows.{AreLinesBegun, AreLinesDone}
use Rattle.script_run.specs.Fronts.{IsFrontOfLines, IsNextLineBegun}

-- ---- a front by the lines that are done

next_begun : (inputs : PlayInputs) (n : ℕ) (st : State) (lines : List StepLine) (entries : List Entry) → IsNextLineBegun inputs n lines st entries → AreLinesBegun inputs n st lines entries
next_begun inputs n st [] entries none = none
next_begun inputs n st (line ∷ lines) entries (inl none) = inl none
next_begun inputs n st (line ∷ lines) entries (inr b) = inr (inl b)

behind_done : (inputs : PlayInputs) (n m : ℕ) (st : State) (done left : List StepLine) (entries part : List Entry)
    → m ≡ n + length done → AreLinesDone inputs n st done entries → IsNextLineBegun inputs m left (after_entries inputs.blobs st entries) part
    → AreLinesBegun inputs n st (done ++ left) (entries ++ part)
behind_done inputs n m st [] left entries part number w b =
    let same : m ≡ n = omega (arith, number) in
    rw w (next_begun inputs n st left part (rw (w, same) at b))
behind_done inputs n m st (l ∷ done) left entries part number w b =
    let state : after_entries inputs.blobs st entries ≡ after_entries inputs.blobs (after_entries inputs.blobs st w.0) w.1 =
    ap (λ (x : List Entry). after_entries inputs.blobs st x) w.2 ∙ after_entries-append inputs.blobs st w.0 w.1 in
    inr (inr (
      w.0,
      w.1 ++ part,
      ap (λ (x : List Entry). x ++ part) w.2 ∙ ap (λ (x : List Entry). Step n ∷ x) (append_assoc w.0 w.1 part),
      w.3,
      behind_done inputs (suc n) m (after_entries inputs.blobs st w.0) done left w.1 part (omega (arith, number)) w.4 (rw state at b),
    ))

pub begun_of_front : (inputs : PlayInputs) (n : ℕ) (st : State) (lines : List StepLine) (entries : List Entry) → IsFrontOfLines inputs n st lines entries → AreLinesBegun inputs n st lines entries
begun_of_front inputs n st lines entries h =
    subst (λ (x : List StepLine). AreLinesBegun inputs n st x entries) (sym h.lines_are)
    (subst (λ (x : List Entry). AreLinesBegun inputs n st (h.done ++ h.left) x) (sym h.entries_are)
    (behind_done inputs n (n + length h.done) st h.done h.left h.before h.last refl h.are_done h.begun))

-- ---- and the lines that are done by a front

none_next : (inputs : PlayInputs) (n : ℕ) (st : State) (lines : List StepLine) → IsNextLineBegun inputs n lines st []
none_next inputs n st [] = refl
none_next inputs n st (line ∷ lines) = inl refl

at_first : (inputs : PlayInputs) (n : ℕ) (st : State) (lines : List StepLine) (entries : List Entry) → IsNextLineBegun inputs n lines st entries → IsFrontOfLines inputs n st lines entries
at_first inputs n st lines entries b =
    let same : n ≡ n + length {A = StepLine} [] = omega arith in
    record {
      done = [];
      left = lines;
      lines_are = refl;
      before = [];
      last = entries;
      entries_are = refl;
      are_done = refl;
      begun = subst (λ (m : ℕ). IsNextLineBegun inputs m lines st entries) same b;
    }

pub front_of_begun : (inputs : PlayInputs) (n : ℕ) (st : State) (lines : List StepLine) (entries : List Entry) → AreLinesBegun inputs n st lines entries → IsFrontOfLines inputs n st lines entries
front_of_begun inputs n st [] entries none = at_first inputs n st [] entries none
front_of_begun inputs n st (line ∷ lines) entries (inl none) = at_first inputs n st (line ∷ lines) entries (inl none)
front_of_begun inputs n st (line ∷ lines) entries (inr (inl b)) = at_first inputs n st (line ∷ lines) entries (inr b)
front_of_begun inputs n st (line ∷ lines) entries (inr (inr d)) =
    let r = front_of_begun inputs (suc n) (after_entries inputs.blobs st d.0) lines d.1 d.4 in
    let number : suc n + length r.done ≡ n + length (line ∷ r.done) = omega arith in
    let state : after_entries inputs.blobs (after_entries inputs.blobs st d.0) r.before ≡ after_entries inputs.blobs st (d.0 ++ r.before) = sym (after_entries-append inputs.blobs st d.0 r.before) in
    record {
      done = line ∷ r.done;
      left = r.left;
      lines_are = ap (λ (x : List StepLine). line ∷ x) r.lines_are;
      before = Step n ∷ (d.0 ++ r.before);
      last = r.last;
      entries_are = d.2 ∙ ap (λ (x : List Entry). Step n ∷ (d.0 ++ x)) r.entries_are ∙ ap (λ (x : List Entry). Step n ∷ x) (sym (append_assoc d.0 r.before r.last));
      are_done = (d.0, r.before, refl, d.3, r.are_done);
      begun = subst (λ (m : ℕ). IsNextLineBegun inputs m r.left (after_entries inputs.blobs st (d.0 ++ r.before)) r.last) number
          (subst (λ (x : State). IsNextLineBegun inputs (suc n + length r.done) r.left x r.last) state r.begun);
    }
