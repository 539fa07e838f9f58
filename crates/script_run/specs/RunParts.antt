-- What a run does, by the state at which it begins and the entries that it brings.
use Rattle.std.specs.Prelude.{ℕ, List}
use Rattle.mse_calls.specs.declared.entry.Entry.{Entry}
use Rattle.call_script.specs.declared.script.StepLine.{StepLine}
use Rattle.mse_engine.specs.State.{State}
use Rattle.script_run.specs.DrainSteps.{AreInDrainOrder}
use Rattle.script_run.specs.Follows.{IsNumberedLineBegun, IsNumberedLineDone, AreScriptLinesDone, AreScriptLinesBegun}
use Rattle.script_run.specs.Lines.{IsLineFront, IsLineEntries, Limits, PlayInputs}

abbrev pub EntryRelation : Type 1
EntryRelation = State → List Entry → Type 0

-- a part of a run over these blobs: which entries are the whole of it, and which a front of it
pub record RunPart : Type 1 where
  pub blobs : List (List ℕ)
  pub does : EntryRelation
  pub begins : EntryRelation

-- a line
abbrev pub line_part : List (List ℕ) → StepLine → RunPart
line_part blobs line = record {
  blobs = blobs;
  does = λ st part. IsLineEntries blobs st line part;
  begins = λ st part. IsLineFront blobs st line part;
}

-- a part of a drain
abbrev pub drain_part : List (List ℕ) → RunPart
drain_part blobs =
    record { blobs = blobs; does = AreInDrainOrder blobs; begins = AreInDrainOrder blobs }

-- a line with its number
abbrev pub numbered_line_part : PlayInputs → ℕ → StepLine → RunPart
numbered_line_part inputs n line = record {
  blobs = inputs.blobs;
  does = IsNumberedLineDone inputs n line;
  begins = IsNumberedLineBegun inputs n line;
}

-- all lines of a script
abbrev pub script_part : List (List ℕ) → Limits → List StepLine → RunPart
script_part blobs limits lines = record {
  blobs = blobs;
  does = AreScriptLinesDone blobs limits lines;
  begins = AreScriptLinesBegun blobs limits lines;
}
