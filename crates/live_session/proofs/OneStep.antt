-- One line that is played where nobody listens is the step of the play.
use Rattle.std.proofs.Common.{◌≡◌, ◌⊎◌, ◌∙◌, ℕ, List, [], ◌∷◌, ◌++◌, refl, sym, ap, subst, inl, inr, arith}
use Rattle.std.specs.Prelude.{Option, Some, None}
use Rattle.std.proofs.lemmas.List.{append-nil}
use Rattle.std.proofs.lemmas.Grind.{flat_map-append}
use Rattle.mse_calls.specs.declared.entry.Entry.{Entry}
use Rattle.mse_calls.specs.declared.entry.Entry.TheVariants.{Step}
use Rattle.call_script.specs.declared.script.StepLine.{StepLine}
use Rattle.call_script.specs.declared.script.StepLine.TheVariants as step
use Rattle.listeners.specs.declared.event_dispatch.DispatchFault.{DispatchFault}
use Rattle.mse_outside.specs.Outside.{SinkView}
use Rattle.mse_engine.specs.State.{State}
use Rattle.mse_engine.specs.Standing.{Stands}
use Rattle.mse_engine.specs.Run.{IsReplay, after_entries}
use Rattle.mse_engine.proofs.Transitions.{IsReplay-append, after_entries-append}
use Rattle.script_run.specs.declared.stop.Stop.{Stop}
use Rattle.script_run.specs.declared.stop.Stop.TheVariants.{Memory, Write, CallBudget, TaskBudget}
use Rattle.script_run.specs.DrainSteps.{IsAtRest}
use Rattle.script_run.specs.Follows.{AreLinesBegun, AreLinesDone, AreScriptLinesBegun, AreScriptLinesDone}
use Rattle.script_run.specs.Lines.{IsLineEntries, IsLineFront, limits, play_inputs}
use Rattle.script_run.specs.PlayedParts.{IsPlayed, IsPlayedUpTo, IsWrittenToLastStep, IsWrittenUpTo, part_front}
use Rattle.script_run.specs.RunStates.{RunState}
use Rattle.script_run.specs.Text.{lines_of, lines_of_entry}
use Rattle.script_run.specs.Turns.{CallsLeft, calls_in}
use Rattle.script_run.specs.Writes.{IsWritten, IsFrontWritten}
use Rattle.script_run.proofs.CallsInRow.{silent_in_place}
use Rattle.script_run.proofs.FollowedLines.{order_then}
use Rattle.script_run.proofs.ListenerTurns.{calls_in-append}
use Rattle.script_run.proofs.PutLines.{behind_front, front_first, front_whole}
use Rattle.script_run.proofs.StoppedParts.{to_last_step}
use Rattle.cut_law.specs.Plays.{after_line, drain_entries, line_entries}
use Rattle.cut_law.proofs.Singles.{line-done, one-play}
use Rattle.live_session.specs.Steps.{last_refusal, step_lines, step_refusal}
use Rattle.live_session.proofs.LastRefusals.{step_refused}

-- ---- the line is done

silent_line : (blobs : List (List ℕ)) (count n : ℕ) (st : State) (line : StepLine) (entries : List Entry) → AreLinesDone (play_inputs blobs (limits 0 count)) n st (line ∷ []) entries → calls_in entries ≡ 0
silent_line blobs count n st line entries w = omega (arith, w.3.within.few, ap calls_in w.2, calls_in-append w.0 w.1, ap calls_in w.4)

-- its entries are those of the play
done_entries : (blobs : List (List ℕ)) (count : ℕ) (st : State) (line : StepLine) (entries : List Entry) → AreLinesDone (play_inputs blobs (limits 0 count)) 0 st (line ∷ []) entries → IsReplay blobs st entries
    → entries ≡ Step 0 ∷ line_entries blobs st line
done_entries blobs count st line entries w r =
    one-play blobs (limits 0 count) 0 st (line ∷ []) entries w r (silent_line blobs count 0 st line entries w)
    ∙ ap (λ (es : List Entry). Step 0 ∷ es) (append-nil (line_entries blobs st line))

pub record IsPlayedStep (blobs : List (List ℕ)) (line : StepLine) (a b : RunState) (st : State) : Type 0 where
  pub stands : Stands b.run.engine (after_line blobs st line)
  pub wrote : IsWritten (step_lines blobs st line) a.written b.written
  pub refusal : last_refusal b.run.entries ≡ step_refusal blobs st line

pub step_done : (blobs : List (List ℕ)) (count : ℕ) (line : StepLine) (a b : RunState) (st : State) → IsPlayed blobs (AreScriptLinesDone blobs (limits 0 count) (line ∷ [])) a b → Stands a.run.engine st
    → IsPlayedStep blobs line a b st
step_done blobs count line a b st p s =
    let same : p.entries ≡ Step 0 ∷ line_entries blobs st line = done_entries blobs count st line p.entries (p.grew.holds st s) (p.grew.goes.replays st s) in
    record {
      stands = subst (λ (es : List Entry). Stands b.run.engine (after_entries blobs st es)) same (p.grew.goes.stands st s);
      wrote = subst (λ (es : List Entry). IsWritten (lines_of es) a.written b.written) same p.wrote;
      refusal = ap last_refusal (p.grew.grew ∙ ap (λ (es : List Entry). a.run.entries ++ es) same) ∙ step_refused a.run.entries blobs st line;
    }

-- ---- the line stopped

whole_line : (blobs : List (List ℕ)) (st : State) (line : StepLine) (part : List Entry) → IsLineEntries blobs st line part → IsReplay blobs st part → calls_in part ≡ 0 → part ≡ line_entries blobs st line
whole_line blobs st line part does r q =
    let all : Step 0 ∷ part ≡ Step 0 ∷ line_entries blobs st line =
    done_entries blobs 0 st line (Step 0 ∷ part) (part, [], ap (λ (es : List Entry). Step 0 ∷ es) (sym (append-nil part)), record { does = does; within = record { few = omega (arith, q); calls = silent_in_place 0 part q } }, refl) (tt, r) in
    cc

abbrev IsFrontOfStep : List (List ℕ) → State → StepLine → List Entry → Type 0
IsFrontOfStep blobs st line part = (rest : List Entry) × (line_entries blobs st line ≡ part ++ rest)

short_front : (blobs : List (List ℕ)) (st : State) (line : StepLine) (part : List Entry) → (part ≡ []) ⊎ IsLineEntries blobs st line part → IsReplay blobs st part → calls_in part ≡ 0 → IsFrontOfStep blobs st line part
short_front blobs st line part (inl none) r q = (line_entries blobs st line, ap (λ (es : List Entry). es ++ line_entries blobs st line) (sym none))
short_front blobs st line part (inr does) r q = ([], sym (whole_line blobs st line part does r q) ∙ sym (append-nil part))

front_line : (blobs : List (List ℕ)) (st : State) (line : StepLine) (part : List Entry) → IsLineFront blobs st line part → IsReplay blobs st part → calls_in part ≡ 0 → IsFrontOfStep blobs st line part
front_line blobs st (step.Call call) part h r q = short_front blobs st (step.Call call) part h r q
front_line blobs st step.Fire part h r q = short_front blobs st step.Fire part h r q
front_line blobs st (step.Work k) part h r q = short_front blobs st (step.Work k) part h r q
front_line blobs st step.Element part h r q = short_front blobs st step.Element part h r q
front_line blobs st step.Drain part h r q =
    let now : State = after_entries blobs st part in
    let more : List Entry = drain_entries blobs now in
    let d = line-done blobs now step.Drain in
    let does : IsLineEntries blobs st step.Drain (part ++ more) = record {
      order = order_then blobs st part more h d.does.order;
      end = subst IsAtRest (sym (after_entries-append blobs st part more)) d.does.end;
    } in
    (more, sym (whole_line blobs st step.Drain (part ++ more) does (IsReplay-append blobs st part more r d.replays) (omega (arith, q, d.quiet, calls_in-append part more))))

-- its printed lines begin with those of the entries
abbrev IsFrontPrinted : List (List ℕ) → State → StepLine → List Entry → Type 0
IsFrontPrinted blobs st line entries = (rest : List (List ℕ)) × (lines_of (line_entries blobs st line) ≡ lines_of entries ++ rest)

printed : (blobs : List (List ℕ)) (st : State) (line : StepLine) (part : List Entry) → IsFrontOfStep blobs st line part → IsFrontPrinted blobs st line part
printed blobs st line part f = (lines_of f.0, ap lines_of f.1 ∙ flat_map-append lines_of_entry part f.0)

begun_printed : (blobs : List (List ℕ)) (count : ℕ) (st : State) (line : StepLine) (entries : List Entry) → AreLinesBegun (play_inputs blobs (limits 0 count)) 0 st (line ∷ []) entries → IsReplay blobs st entries → IsFrontPrinted blobs st line entries
begun_printed blobs count st line entries (inl none) r = (lines_of (line_entries blobs st line), ap (λ (es : List Entry). lines_of es ++ lines_of (line_entries blobs st line)) (sym none))
begun_printed blobs count st line entries (inr (inl b)) r =
    let replays : IsReplay blobs st (Step 0 ∷ b.0) = subst (λ (es : List Entry). IsReplay blobs st es) b.1 r in
    let f = printed blobs st line b.0 (front_line blobs st line b.0 b.2.begins replays.1 (omega (arith, b.2.within.few))) in
    (f.0, f.1 ∙ ap (λ (es : List Entry). lines_of es ++ f.0) (sym b.1))
begun_printed blobs count st line entries (inr (inr d)) r =
    let done : AreLinesDone (play_inputs blobs (limits 0 count)) 0 st (line ∷ []) entries = (d.0, d.1, d.2, d.3, d.4) in
    ([], ap lines_of (sym (done_entries blobs count st line entries done r)) ∙ sym (append-nil (lines_of entries)))

step_written : (entries : List Entry) (old new : SinkView) → IsWrittenToLastStep entries old new → IsFrontWritten (lines_of entries) old new
step_written entries old new w =
    subst (λ (xs : List (List ℕ)). IsFrontWritten xs old new) (sym (ap lines_of w.entries_are ∙ flat_map-append lines_of_entry w.before w.last)) (behind_front (lines_of w.before) (lines_of w.last) old new w.wrote)

stop_written : (stop : Stop) (f : Option DispatchFault) (entries : List Entry) (old new : SinkView) → IsWrittenUpTo stop f entries old new → IsFrontWritten (lines_of entries) old new
stop_written Memory f entries old new w = step_written entries old new (to_last_step Memory f entries old new (inl refl) w)
stop_written Write f entries old new w = step_written entries old new (to_last_step Write f entries old new (inr refl) w)
stop_written (CallBudget k) None entries old new w = absurd w
stop_written (CallBudget k) (Some f) entries old new w = front_whole (lines_of entries) old new w.1
stop_written TaskBudget None entries old new w = absurd w
stop_written TaskBudget (Some f) entries old new w = front_whole (lines_of entries) old new w.1

pub step_halted : (blobs : List (List ℕ)) (count : ℕ) (line : StepLine) (calls_left : CallsLeft) (stop : Stop) (a b : RunState) (st : State)
    → IsPlayedUpTo blobs (part_front (AreScriptLinesBegun blobs (limits 0 count) (line ∷ [])) calls_left) stop a b → Stands a.run.engine st → IsFrontWritten (lines_of (line_entries blobs st line)) a.written b.written
step_halted blobs count line calls_left stop a b st p s =
    let f = begun_printed blobs count st line p.entries (p.grew.holds st s) (p.grew.goes.replays st s) in
    subst (λ (xs : List (List ℕ)). IsFrontWritten xs a.written b.written) (sym f.1)
    (front_first (lines_of p.entries) f.0 a.written b.written (stop_written stop p.stopped.fault p.entries a.written b.written p.stopped.wrote))
