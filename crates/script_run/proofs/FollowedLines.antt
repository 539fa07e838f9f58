-- Lines that are followed, one after another.
use Rattle.std.proofs.Common.{◌≡◌, ◌<◌, ◌+◌, ℕ, suc, List, [], ◌∷◌, ◌++◌, length, refl, sym, ◌∙◌, ap, append_assoc, arith, subst, inl, inr, take, drop, get_or}
use Rattle.std.proofs.lemmas.List.{append-nil, take-append-drop, drop_more, take_more, length-take}
use Rattle.mse_calls.specs.declared.entry.Entry.{Entry}
use Rattle.mse_calls.specs.declared.entry.Entry.TheVariants.{Step}
use Rattle.call_script.specs.declared.script.StepLine.{StepLine}
use Rattle.mse_engine.specs.State.{State}
use Rattle.mse_engine.specs.Run.{after_entries}
use Rattle.mse_engine.proofs.Transitions.{after_entries-append}
use Rattle.script_run.specs.DrainSteps.{AreInDrainOrder}
use Rattle.script_run.specs.Lines.{Limits, play_inputs}
use Rattle.script_run.specs.Follows.{AreLinesDone, AreLinesBegun, IsNumberedLineDone, IsNumberedLineBegun, AreScriptLinesDone, AreScriptLinesBegun}
use Rattle.mse_engine.specs.Run.{entry_meaning}

-- a drain in parts
pub order_then : (blobs : List (List ℕ)) (st : State) (xs ys : List Entry) → AreInDrainOrder blobs st xs → AreInDrainOrder blobs (after_entries blobs st xs) ys
    → AreInDrainOrder blobs st (xs ++ ys)
order_then blobs st [] ys p q = q
order_then blobs st (x ∷ xs) ys p q = (p.0, order_then blobs (entry_meaning blobs st x).state xs ys p.1 q)

-- one more line at the end
pub whole_more : (blobs : List (List ℕ)) (limits : Limits) (n m : ℕ) (st : State) (lines : List StepLine) (line : StepLine) (entries part : List Entry)
    → m ≡ n + length lines → AreLinesDone (play_inputs blobs limits) n st lines entries → IsNumberedLineDone (play_inputs blobs limits) m line (after_entries blobs st entries) part
    → AreLinesDone (play_inputs blobs limits) n st (lines ++ line ∷ []) (entries ++ part)
whole_more blobs limits n m st [] line entries part number w d =
    let same : m ≡ n = omega (arith, number) in
    rw w (d.0, [], (rw same at d.1) ∙ ap (λ (x : List Entry). Step n ∷ x) (sym (append-nil d.0)), rw w at d.2, refl)
whole_more blobs limits n m st (l ∷ lines) line entries part number w d =
    let state : after_entries blobs st entries ≡ after_entries blobs (after_entries blobs st w.0) w.1 =
    ap (λ (x : List Entry). after_entries blobs st x) w.2 ∙ after_entries-append blobs st w.0 w.1 in (
      w.0,
      w.1 ++ part,
      ap (λ (x : List Entry). x ++ part) w.2 ∙ ap (λ (x : List Entry). Step n ∷ x) (append_assoc w.0 w.1 part),
      w.3,
      whole_more blobs limits (suc n) m (after_entries blobs st w.0) lines line w.1 part (omega (arith, number)) w.4 (rw state at d),
    )

-- a line that begins behind whole lines
pub begun_more : (blobs : List (List ℕ)) (limits : Limits) (n m : ℕ) (st : State) (lines : List StepLine) (line : StepLine) (others : List StepLine) (entries part : List Entry)
    → m ≡ n + length lines → AreLinesDone (play_inputs blobs limits) n st lines entries → IsNumberedLineBegun (play_inputs blobs limits) m line (after_entries blobs st entries) part
    → AreLinesBegun (play_inputs blobs limits) n st (lines ++ line ∷ others) (entries ++ part)
begun_more blobs limits n m st [] line others entries part number w (inl none) = rw w (inl none)
begun_more blobs limits n m st [] line others entries part number w (inr b) =
    let same : m ≡ n = omega (arith, number) in
    rw w (inr (inl (b.0, rw same at b.1, rw w at b.2)))
begun_more blobs limits n m st (l ∷ lines) line others entries part number w b =
    let state : after_entries blobs st entries ≡ after_entries blobs (after_entries blobs st w.0) w.1 =
    ap (λ (x : List Entry). after_entries blobs st x) w.2 ∙ after_entries-append blobs st w.0 w.1 in
    inr (inr (
      w.0,
      w.1 ++ part,
      ap (λ (x : List Entry). x ++ part) w.2 ∙ ap (λ (x : List Entry). Step n ∷ x) (append_assoc w.0 w.1 part),
      w.3,
      begun_more blobs limits (suc n) m (after_entries blobs st w.0) lines line others w.1 part (omega (arith, number)) w.4 (rw state at b),
    ))

pub split_at : (lines : List StepLine) (i : ℕ) (d : StepLine) → i < length lines → lines ≡ take i lines ++ get_or lines i d ∷ drop (i + 1) lines
split_at lines i d lt = sym (take-append-drop i lines) ∙ ap (λ (x : List StepLine). take i lines ++ x) (drop_more lines i d lt)

-- so many lines, and the next one
pub lines_join : (blobs : List (List ℕ)) (limits : Limits) (lines : List StepLine) (n : ℕ) (line : StepLine) → n < length lines → get_or lines n line ≡ line
    → (st : State) (xs ys : List Entry) → AreScriptLinesDone blobs limits (take n lines) st xs → IsNumberedLineDone (play_inputs blobs limits) n line (after_entries blobs st xs) ys
    → AreScriptLinesDone blobs limits (take (n + 1) lines) st (xs ++ ys)
lines_join blobs limits lines n line lt is st xs ys p q =
    let number : n ≡ 0 + length (take n lines) = omega (arith, length-take n lines, lt) in
    rw (take_more lines n line lt, is) (whole_more blobs limits 0 n st (take n lines) line xs ys number p q)

pub lines_stop_join : (blobs : List (List ℕ)) (limits : Limits) (lines : List StepLine) (n : ℕ) (line : StepLine) → n < length lines → get_or lines n line ≡ line
    → (st : State) (xs ys : List Entry) → AreScriptLinesDone blobs limits (take n lines) st xs → IsNumberedLineBegun (play_inputs blobs limits) n line (after_entries blobs st xs) ys
    → AreScriptLinesBegun blobs limits lines st (xs ++ ys)
lines_stop_join blobs limits lines n line lt is st xs ys p q =
    let number : n ≡ 0 + length (take n lines) = omega (arith, length-take n lines, lt) in
    let split : lines ≡ take n lines ++ line ∷ drop (n + 1) lines = rw is at (split_at lines n line lt) in
    subst (λ (x : List StepLine). AreScriptLinesBegun blobs limits x st (xs ++ ys)) (sym split)
    (begun_more blobs limits 0 n st (take n lines) line (drop (n + 1) lines) xs ys number p q)
