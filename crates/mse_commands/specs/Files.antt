-- Runs with one file, which `ranges` appends at once and `pieces` in pieces (docs/SCRIPTS.md, commands).
use Rattle.std.specs.Prelude.{◌≡◌, ◌⊎◌, ℕ, List, [], ◌∷◌, length, Some, IsSomeAnd, ⊤}
use Rattle.mse_outside.specs.Outside.{Table}
use Rattle.mse_calls.specs.declared.entry.Entry.{Entry}
use Rattle.mse_commands.specs.declared.ending.Status.{Status}
use Rattle.mse_commands.specs.declared.ending.Status.TheVariants as status
use Rattle.mse_commands.specs.declared.words.Command.{Command}
use Rattle.mse_commands.specs.declared.words.Command.TheVariants.{Ranges, Pieces}
use Rattle.mse_commands.specs.Requests.{ByFile, opening_of, request_in}
use Rattle.mse_commands.specs.Outcomes.{IsEndOfRun, RunOutcome}
use Rattle.mse_commands.specs.Shown.{IsWholeFile, pieces_by}
use Rattle.mse_commands.specs.Words.{IsInRange, command_of, file_of}

-- the command appends a file of the library, and prints the block of it alone
abbrev pub IsAppendCommand : Command → Type 0
IsAppendCommand Ranges = ⊤
IsAppendCommand (Pieces count) = ⊤
IsAppendCommand other = ⊥

-- the whole journal of a command that appends a file of these bytes
pub record IsJournalOf (command : Command) (bytes : List ℕ) (entries : List Entry) : Type 0 where
  pub appends : IsAppendCommand command
  pub number : IsInRange command
  pub whole : IsWholeFile (bytes ∷ []) (opening_of (ByFile command bytes))
      (pieces_by command (length bytes)) entries

-- two calls name one file, of these bytes
pub record AreNamesOfOneFile (files : Table) (a b : List (List ℕ)) (bytes : List ℕ) : Type 0 where
  pub first : IsSomeAnd (command_of a) IsAppendCommand
  pub second : IsSomeAnd (command_of b) IsAppendCommand
  pub same : file_of a ≡ file_of b
  pub found : files (file_of a) ≡ Some bytes

-- the run went through to its end
abbrev pub IsThrough : Status → Type 0
IsThrough end = (end ≡ status.Ok) ⊎ (end ≡ status.Media)

-- a run for these words that went through to its end, where these bytes were written before
pub record IsThroughWith (files : Table) (words : List (List ℕ)) (before : List ℕ)
    (outcome : RunOutcome) (status : Status) : Type 0 where
  pub count : ℕ
  pub before_is : outcome.before.written.bytes ≡ Some before
  pub through : IsThrough status
  pub ends : IsEndOfRun count (request_in files words) outcome status
