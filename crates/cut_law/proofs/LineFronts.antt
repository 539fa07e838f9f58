-- What is left of a line that was cut off.
use Rattle.std.proofs.Common.{◌≡◌, ◌⊎◌, ℕ, List, [], ◌++◌, sym, subst, inl, inr}
use Rattle.std.proofs.lemmas.List.{append-nil}
use Rattle.mse_calls.specs.declared.entry.Entry.{Entry}
use Rattle.call_script.specs.declared.script.StepLine.{StepLine}
use Rattle.call_script.specs.declared.script.StepLine.TheVariants as step
use Rattle.mse_engine.specs.State.{State}
use Rattle.mse_engine.specs.Run.{after_entries}
use Rattle.mse_engine.proofs.Transitions.{after_entries-append}
use Rattle.script_run.specs.DrainSteps.{IsAtRest}
use Rattle.script_run.specs.Lines.{IsLineEntries, IsLineFront}
use Rattle.script_run.proofs.FollowedLines.{order_then}
use Rattle.cut_law.specs.Plays.{drain_entries, line_entries}
use Rattle.cut_law.proofs.Singles.{line-done, some-drain}

-- the line has not begun, or is whole
short_line : (blobs : List (List ℕ)) (st : State) (line : StepLine) (part : List Entry) → (part ≡ []) ⊎ IsLineEntries blobs st line part → (rest : List Entry) × IsLineEntries blobs st line (part ++ rest)
short_line blobs st line part (inl none) =
    (line_entries blobs st line, subst (λ (x : List Entry). IsLineEntries blobs st line (x ++ line_entries blobs st line)) (sym none) (line-done blobs st line).does)
short_line blobs st line part (inr whole) = ([], subst (λ (x : List Entry). IsLineEntries blobs st line x) (sym (append-nil part)) whole)

pub rest_of_line : (blobs : List (List ℕ)) (st : State) (line : StepLine) (part : List Entry) → IsLineFront blobs st line part → (rest : List Entry) × IsLineEntries blobs st line (part ++ rest)
rest_of_line blobs st (step.Call call) part h = short_line blobs st (step.Call call) part h
rest_of_line blobs st step.Fire part h = short_line blobs st step.Fire part h
rest_of_line blobs st (step.Work k) part h = short_line blobs st (step.Work k) part h
rest_of_line blobs st step.Element part h = short_line blobs st step.Element part h
rest_of_line blobs st step.Drain part h =
    let now : State = after_entries blobs st part in
    let rest = some-drain blobs now in (
      drain_entries blobs now,
      record {
        order = order_then blobs st part (drain_entries blobs now) h rest.0.order;
        end = subst IsAtRest (sym (after_entries-append blobs st part (drain_entries blobs now))) rest.0.end;
      },
    )
