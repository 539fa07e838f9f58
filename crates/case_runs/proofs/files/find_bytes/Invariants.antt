use Rattle.std.proofs.Common.{◌≡◌, drop}
use Rattle.mse_outside.specs.Memory.{table_of}
use Rattle.case_runs.specs.Given.{files_in}
use Rattle.case_runs.proofs.files.find_bytes.Given as goal

-- no file before this place has the name
abbrev pub invariant-loop-file : goal.invariant-loop-file
invariant-loop-file l = table_of (files_in (drop l.file-index l.files)) l.name ≡ table_of (files_in l.files) l.name
