-- The files that a run is given.
use denote.Ref.{Bor}
use Rattle.std.specs.Prelude.{ℕ, List, ◌∷◌, Option, Some, None, map, string_bytes}
use Rattle.mse_outside.specs.Memory.{Files}
use Rattle.case_runs.specs.declared.files.CaseFile.{CaseFile}

-- files, by their names and at the same places their bytes
abbrev pub files_in : List CaseFile → Files
files_in files = record {
  names = map (λ file. string_bytes file.name) files;
  contents = map (λ file. file.bytes.items) files;
}

-- the same files, of which one has other bytes: it stands first, and the first of a name counts
abbrev pub with_changed : Option (Bor (List ℕ) × Bor (List ℕ)) → Files → Files
with_changed None files = files
with_changed (Some changed) files = record {
  names = changed.0.now ∷ files.names;
  contents = changed.1.now ∷ files.contents;
}
