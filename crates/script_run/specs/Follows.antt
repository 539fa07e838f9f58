-- A journal that follows a script, line by line.
use Rattle.std.specs.Prelude.{◌≡◌, ◌⊎◌, ℕ, suc, List, [], ◌∷◌, ◌++◌}
use Rattle.mse_calls.specs.declared.entry.Entry.{Entry}
use Rattle.mse_calls.specs.declared.entry.Entry.TheVariants.{Step}
use Rattle.call_script.specs.declared.script.StepLine.{StepLine}
use Rattle.mse_engine.specs.State.{State}
use Rattle.mse_engine.specs.Run.{after_entries}
use Rattle.script_run.specs.Lines.{IsLineEntries, IsLineFront, Limits, IsWithin, PlayInputs, play_inputs}

-- the entries of one line
pub record IsLineDone (inputs : PlayInputs) (st : State) (line : StepLine)
    (part : List Entry) : Type 0 where
  pub does : IsLineEntries inputs.blobs st line part
  pub within : IsWithin inputs.limits part

-- those of a line that was cut off
pub record IsLineBegun (inputs : PlayInputs) (st : State) (line : StepLine)
    (part : List Entry) : Type 0 where
  pub begins : IsLineFront inputs.blobs st line part
  pub within : IsWithin inputs.limits part

-- from line `n` on, every line is done, one after the other: its number, and then its entries
abbrev pub AreLinesDone : PlayInputs → ℕ → State → List StepLine → List Entry → Type 0
AreLinesDone inputs n st [] entries = entries ≡ []
AreLinesDone inputs n st (line ∷ lines) entries =
    (part : List Entry) × (rest : List Entry) × (entries ≡ Step n ∷ (part ++ rest))
    × IsLineDone inputs st line part
    × AreLinesDone inputs (suc n) (after_entries inputs.blobs st part) lines rest

-- the same of a front of the lines, and of a part of the next
abbrev pub AreLinesBegun : PlayInputs → ℕ → State → List StepLine → List Entry → Type 0
AreLinesBegun inputs n st [] entries = entries ≡ []
AreLinesBegun inputs n st (line ∷ lines) entries =
    (entries ≡ [])
    ⊎ ((part : List Entry) × (entries ≡ Step n ∷ part) × IsLineBegun inputs st line part)
    ⊎ ((part : List Entry) × (rest : List Entry) × (entries ≡ Step n ∷ (part ++ rest))
    × IsLineDone inputs st line part
    × AreLinesBegun inputs (suc n) (after_entries inputs.blobs st part) lines rest)

-- ---- as what is done from a state on

abbrev pub IsNumberedLineDone : PlayInputs → ℕ → StepLine → State → List Entry → Type 0
IsNumberedLineDone inputs n line st entries =
    (part : List Entry) × (entries ≡ Step n ∷ part) × IsLineDone inputs st line part

abbrev pub IsNumberedLineBegun : PlayInputs → ℕ → StepLine → State → List Entry → Type 0
IsNumberedLineBegun inputs n line st entries =
    (entries ≡ [])
    ⊎ ((part : List Entry) × (entries ≡ Step n ∷ part) × IsLineBegun inputs st line part)

abbrev pub AreScriptLinesDone : List (List ℕ) → Limits → List StepLine → State → List Entry → Type 0
AreScriptLinesDone blobs limits lines st entries =
    AreLinesDone (play_inputs blobs limits) 0 st lines entries

abbrev pub AreScriptLinesBegun : List (List ℕ) → Limits → List StepLine → State → List Entry
    → Type 0
AreScriptLinesBegun blobs limits lines st entries =
    AreLinesBegun (play_inputs blobs limits) 0 st lines entries
