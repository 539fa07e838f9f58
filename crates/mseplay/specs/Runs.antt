-- A run of the program.
use Rattle.std.specs.Prelude.{ℕ, ◌≡◌, ◌⊎◌, List, Option}
use Rattle.mse_outside.specs.declared.library.Loaded.{Loaded}
use Rattle.mse_outside.specs.Outside.{Table}
use Rattle.mse_commands.specs.declared.ending.Status.{Status}
use Rattle.mse_commands.specs.declared.ending.Status.TheVariants as status
use Rattle.mse_commands.specs.Endings.{status_number}
use Rattle.rule_run.specs.ByRules.{IsRunByRules, LibraryAndSink}

-- The words are run with sixteen listeners by rules, and this is the number of the status of that run; or memory ran out
-- before the run, nothing was done, and it is that of `Memory`. The library had this table, and says this of its loads.
abbrev pub IsRunOfProgram : {L : Type 0} → Option Table → (L → List ℕ → Loaded → L → Type 0)
    → List (List ℕ) → LibraryAndSink L → LibraryAndSink L → ℕ → Type 0
IsRunOfProgram table load_gives words before now number =
    ((end : Status) × (number ≡ status_number end)
    × IsRunByRules 16 table load_gives words before now end)
    ⊎ ((number ≡ status_number status.Memory) × (now ≡ before))
