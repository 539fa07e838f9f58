-- What a sink was given.
use Rattle.std.specs.Prelude.{◌≡◌, ◌⊎◌, ◌+◌, ◌<◌, ℕ, List, [], ◌∷◌, ◌++◌, length, Some, IfSome, Result, Ok, Err}
use Rattle.std.specs.List.{concat}
use Rattle.mse_outside.specs.Outside.{HasFrontAppended, IfTold, SinkView}
use Rattle.mse_outside.specs.declared.sink.Put.{Put}
use Rattle.mse_outside.specs.declared.sink.Put.TheVariants.{Done, Failed, OutOfMemory}
use Rattle.script_run.specs.declared.stop.Halt.{Halt}
use Rattle.script_run.specs.declared.stop.Halt.TheVariants.{Memory, Write}

-- These were put, one after another. Where the written bytes are told, theirs came; where the puts are told, each was a put
-- of its own.
pub record IsWritten (lines : List (List ℕ)) (old new : SinkView) : Type 0 where
  pub bytes : IfSome old.bytes (λ before. new.bytes ≡ Some (before ++ concat lines))
  pub puts : IfSome old.puts (λ before. new.puts ≡ Some (before ++ lines))

-- a front part of these bytes came, by one put of all of them at most
pub record IsPutTried (bytes : List ℕ) (old new : SinkView) : Type 0 where
  pub front : IfTold old.bytes new.bytes (λ before now. HasFrontAppended bytes before now)
  pub put : IfTold old.puts new.puts (λ before now. (now ≡ before) ⊎ (now ≡ before ++ bytes ∷ []))

-- the first of these was tried, where there is one
abbrev pub IsFirstTried : List (List ℕ) → SinkView → SinkView → Type 0
IsFirstTried [] old new = new ≡ old
IsFirstTried (line ∷ lines) old new = IsPutTried line old new

-- The first of these were put, one after another; and of the next a front part may have come.
pub record IsFrontWritten (lines : List (List ℕ)) (old new : SinkView) : Type 0 where
  pub whole : List (List ℕ)
  pub rest : List (List ℕ)
  pub lines_are : lines ≡ whole ++ rest
  pub middle : SinkView
  pub wrote : IsWritten whole old middle
  pub tried : IsFirstTried rest middle new

-- all lines were put, and of those behind them a front
pub record IsFrontWrittenBehind (lines more : List (List ℕ)) (old new : SinkView) : Type 0 where
  pub middle : SinkView
  pub wrote : IsWritten lines old middle
  pub front : IsFrontWritten more middle new

-- fewer bytes came than these lines have, where they are told
abbrev pub IsShortOf : List (List ℕ) → SinkView → SinkView → Type 0
IsShortOf lines old new =
    IfTold old.bytes new.bytes (λ before now. length now < length before + length (concat lines))

-- what a run makes of the answer to a put
abbrev pub halt_of : Put → Result (Unit {0}) Halt
halt_of Done = Ok tt
halt_of Failed = Err Write
halt_of OutOfMemory = Err Memory
