-- What a run prints into memory.
use Rattle.std.specs.Prelude.{◌≡◌, ◌⊎◌, ℕ, List, [], ◌++◌, Some}
use Rattle.std.specs.List.{concat}
use Rattle.mse_outside.specs.Memory.{SureSinkState}
use Rattle.mse_outside.specs.Outside.{sink_view}
use Rattle.mse_commands.specs.declared.ending.Status.{Status}
use Rattle.mse_commands.specs.declared.ending.Status.TheVariants as status
use Rattle.mse_commands.specs.Program.{Output}
use Rattle.rule_run.specs.ByRules.{LibraryAndSink, library_and_sink}

-- Of a run that is expected to end with this status and to print this text: it did so; or there was no memory, and it
-- printed a front of the text.
abbrev pub IsWholeOrFront : Status → List ℕ → List ℕ → Status → Type 0
IsWholeOrFront expected text printed end =
    ((end ≡ expected) × (printed ≡ text))
    ⊎ ((end ≡ status.Memory) × ((rest : List ℕ) × (text ≡ printed ++ rest)))

-- so it is with the status and the lines of the program
abbrev pub IsTextBy : Output → List ℕ → Status → Type 0
IsTextBy output printed end = IsWholeOrFront output.status (concat output.lines) printed end

-- a library, and a sink in memory, of which no put fails
abbrev pub library_and_memory : {L : Type 0} → (L → ℕ) → L → SureSinkState → LibraryAndSink L
library_and_memory loads library sink =
    library_and_sink loads (λ s. sink_view (Some s.written) (Some s.puts)) (λ s. 0) library sink

-- a sink in memory that was given nothing
abbrev pub empty_sink : SureSinkState
empty_sink = record { written = []; puts = [] }
