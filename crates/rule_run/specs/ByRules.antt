-- Runs whose listeners go by rules.
use Rattle.std.specs.Prelude.{◌≡◌, ◌≢◌, ℕ, List, [], Option, None, IfSome, replicate}
use Rattle.mse_outside.specs.declared.library.Loaded.{Loaded}
use Rattle.mse_outside.specs.Outside.{HasRisen, SinkView, Table}
use Rattle.mse_calls.specs.declared.entry.Entry.{Entry}
use Rattle.mse_calls.specs.declared.rules.Rule.{Rule}
use Rattle.run_steps.specs.declared.note.Note.{Note}
use Rattle.mse_engine.specs.Standing.{KeptEngine}
use Rattle.mse_commands.specs.declared.ending.Status.{Status}
use Rattle.mse_commands.specs.declared.ending.Status.TheVariants as status
use Rattle.mse_commands.specs.Ends.{AreByWays, IsOutputBy}
use Rattle.mse_commands.specs.Outcomes.{IsEndOfRun, outcome, outside_of}
use Rattle.mse_commands.specs.Program.{by_rules, program_of}
use Rattle.mse_commands.specs.Requests.{HasRequestOfWords, Request}
use Rattle.mse_commands.specs.Says.{IsFailedLoadSaid}
use Rattle.mse_commands.specs.Words.{command_of}

-- A library and a sink: how many loads of the library have failed, what the sink tells, and how many puts have failed.
pub record LibraryAndSink (L : Type 0) : Type 0 where
  pub library : L
  pub failed_loads : ℕ
  pub written : SinkView
  pub failed_puts : ℕ

-- by what is seen of each
abbrev pub library_and_sink : {L K : Type 0} → (L → ℕ) → (K → SinkView) → (K → ℕ) → L → K
    → LibraryAndSink L
library_and_sink loads written puts library sink = record {
  library = library;
  failed_loads = loads library;
  written = written sink;
  failed_puts = puts sink;
}

-- A run ends so with this many listeners that had no rules and had heard nothing, of which each did what its rules give.
abbrev pub IsEndByRules : {L : Type 0} → ℕ → Request → LibraryAndSink L → LibraryAndSink L → Status
    → Type 0
IsEndByRules count request before now end =
    (entries : List Entry) × (engine : Option KeptEngine) × (notes : List (List Note))
    × (rules : List (List Rule)) × AreByWays (by_rules count) rules notes
    × IsEndOfRun count request
    (outcome entries engine
    (outside_of before.failed_loads before.written (replicate count []) (replicate count []))
    (outside_of now.failed_loads now.written notes rules)) end

-- What `run` promises of the words, the library and the sink, told of so many listeners by rules: the library had this
-- table, and tells this of its loads.
pub record IsRunByRules {L : Type 0} (count : ℕ) (table : Option Table)
    (load_gives : L → List ℕ → Loaded → L → Type 0) (words : List (List ℕ))
    (before now : LibraryAndSink L) (end : Status) : Type 0 where
  pub program : IfSome table (λ files. ¬ HasRisen before.failed_loads now.failed_loads
      → ¬ HasRisen before.failed_puts now.failed_puts
      → IsOutputBy (program_of (by_rules count) files words) before.written now.written end)
  pub ends : HasRequestOfWords table words (λ request. IsEndByRules count request before now end)
  pub no_command : end ≡ status.Words → command_of words ≡ None
  pub read : end ≡ status.Read → HasRisen before.failed_loads now.failed_loads
  pub write : end ≡ status.Write → HasRisen before.failed_puts now.failed_puts
  pub failed_loads_told : end ≢ status.Read → end ≢ status.Memory → end ≢ status.Write
      → now.failed_loads ≡ before.failed_loads
  pub failed_puts_told : end ≢ status.Write → now.failed_puts ≡ before.failed_puts
  pub failed_load : end ≡ status.Read → HasRequestOfWords table words (λ request.
      IsFailedLoadSaid load_gives request.names (before.library, now.library)
      before.written now.written)
