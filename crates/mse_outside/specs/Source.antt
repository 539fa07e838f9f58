-- What a source of files tells, and what the folder over it answers to a load.
use Rattle.std.specs.Prelude.{ℕ, ◌+◌, ◌-◌, ◌^◌, ◌<◌, ◌≤◌, ◌≡◌, ◌≢◌, ◌⊎◌, Bool, true, false, List, [], ◌++◌, length, take, Option, Some, None, IsSomeAnd, Result, Ok, Err, IfErr, IsOkAnd, MatchResult}
use Rattle.std.specs.IoError.{error_kind}
use Rattle.std.specs.declared.io.Error.{Error}
use Rattle.std.specs.declared.io.ErrorKind.{ErrorKind}
use Rattle.std.specs.declared.io.ErrorKind.TheVariants.{Interrupted, NotFound, OutOfMemory as NoMemory}
use Rattle.mse_outside.specs.Count.{next_count}
use Rattle.mse_outside.specs.Outside.{Table}
use Rattle.mse_outside.specs.declared.library.Loaded.{Loaded}
use Rattle.mse_outside.specs.declared.library.Loaded.TheVariants.{Done, NoFile, Failed, OutOfMemory}

-- What reads of an open file give from here on: these bytes, and behind them the end, or where the file is broken a read
-- that fails. So many reads are interrupted on the way.
pub record Unread : Type 0 where
  pub bytes : List ℕ
  pub broken : Bool
  pub interrupts : ℕ

-- what is left behind a read that failed with an error of this kind
pub record IsReadError (old new : Unread) (kind : ErrorKind) : Type 0 where
  pub interrupted : kind ≡ Interrupted → old ≡ record new { interrupts = new.interrupts + 1 }
  pub out_of_memory : kind ≡ NoMemory → new ≡ old
  pub failed : kind ≢ Interrupted → kind ≢ NoMemory → (old.bytes ≡ []) × (old.broken ≡ true)

-- what is left behind a read into a buffer, which has these bytes then; no byte is given only at the end
abbrev pub IsRead : List ℕ → Result ℕ Error → Unread → Unread → Type 0
IsRead buf (Ok count) old new =
    (old ≡ record new { bytes = take count buf ++ new.bytes })
    × (count ≡ 0 → 0 < length buf → (old.bytes ≡ []) × (old.broken ≡ false))
IsRead buf (Err error) old new = IsReadError old new (error_kind error)

-- What a source tells: the file of each name, or with which kind of error it is not opened; and how often it was asked to
-- open one.
pub record Source : Type 0 where
  pub files : List ℕ → Result Unread ErrorKind
  pub opens : ℕ

-- something holds of what was told and of what is; what is not told stays so
abbrev pub StaysTold : {X : Type 0} → Option X → Option X → (X → X → Type 0) → Type 0
StaysTold None new holds = new ≡ None
StaysTold (Some before) new holds = IsSomeAnd new (λ now. holds before now)

-- it was asked once more
abbrev pub with_open : Source → Source
with_open source = record source { opens = next_count source.opens }

-- the file that the source has is the one that was opened, or is not opened for this reason
abbrev pub IsOpened : {F : Type 0} → (F → Option Unread) → Result Unread ErrorKind → Result F Error → Type 0
IsOpened left file opened =
    MatchResult opened (λ it. IsOkAnd file (λ unread. left it ≡ Some unread))
    (λ error. file ≡ Err (error_kind error))

-- the bytes of a file
abbrev pub bytes_in : Result Unread ErrorKind → Option (List ℕ)
bytes_in (Ok unread) = Some unread.bytes
bytes_in (Err kind) = None

-- the bytes of each file by its name
abbrev pub table_in : Source → Table
table_in source name = bytes_in (source.files name)

-- Why a file cannot be read to its end: a read fails, it has more than 2^30 bytes, or 2^64 - 1 reads do not come to the
-- end, since nearly all of them are interrupted.
abbrev pub IsUnreadable : Unread → Type 0
IsUnreadable unread =
    (unread.broken ≡ true) ⊎ (2 ^ 30 < length unread.bytes)
    ⊎ (2 ^ 64 - 1 ≤ length unread.bytes + unread.interrupts)

-- why a load of this file answers so
abbrev pub IsAnswerFor : Result Unread ErrorKind → Loaded → Type 0
IsAnswerFor file Done =
    IsOkAnd file (λ unread. (unread.broken ≡ false) × (length unread.bytes ≤ 2 ^ 30))
IsAnswerFor file NoFile = file ≡ Err NotFound
IsAnswerFor file Failed =
    MatchResult file IsUnreadable (λ kind. (kind ≢ NotFound) × (kind ≢ NoMemory))
IsAnswerFor file OutOfMemory = IfErr file (λ kind. kind ≡ NoMemory)

-- A load of this name over a source: one file was opened, and the answer has its cause in the file of this name.
pub record IsFolderLoad (name : List ℕ) (answer : Loaded) (old new : Source) : Type 0 where
  pub opened : new ≡ with_open old
  pub cause : IsAnswerFor (old.files name) answer
