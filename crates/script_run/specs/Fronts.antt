-- A front of the lines of a script: some lines are done, and of the next a front.
use Rattle.std.specs.Prelude.{◌≡◌, ◌+◌, ℕ, List, [], ◌∷◌, ◌++◌, length}
use Rattle.mse_calls.specs.declared.entry.Entry.{Entry}
use Rattle.call_script.specs.declared.script.StepLine.{StepLine}
use Rattle.mse_engine.specs.State.{State}
use Rattle.mse_engine.specs.Run.{after_entries}
use Rattle.script_run.specs.Follows.{AreLinesDone, IsNumberedLineBegun}
use Rattle.script_run.specs.Lines.{PlayInputs}

-- the next line, if there is one, has not begun, or a part of it is done
abbrev pub IsNextLineBegun : PlayInputs → ℕ → List StepLine → State → List Entry → Type 0
IsNextLineBegun inputs n [] st entries = entries ≡ []
IsNextLineBegun inputs n (line ∷ lines) st entries = IsNumberedLineBegun inputs n line st entries

-- From line `n` on, some lines are done, one after the other, and then the next may have begun.
pub record IsFrontOfLines (inputs : PlayInputs) (n : ℕ) (st : State) (lines : List StepLine)
    (entries : List Entry) : Type 0 where
  pub done : List StepLine
  pub left : List StepLine
  pub lines_are : lines ≡ done ++ left
  pub before : List Entry
  pub last : List Entry
  pub entries_are : entries ≡ before ++ last
  pub are_done : AreLinesDone inputs n st done before
  pub begun : IsNextLineBegun inputs (n + length done) left
      (after_entries inputs.blobs st before)
      last
