-- What an output tells, and what standard output over it answers to a put.
use Rattle.std.specs.Prelude.{ℕ, ◌+◌, ◌-◌, ◌^◌, ◌<◌, ◌≤◌, ◌≡◌, ◌≢◌, ◌⊎◌, Bool, true, false, List, ◌++◌, length, take, Result, Ok, Err}
use Rattle.std.specs.IoError.{error_kind}
use Rattle.std.specs.declared.io.Error.{Error}
use Rattle.std.specs.declared.io.ErrorKind.{ErrorKind}
use Rattle.std.specs.declared.io.ErrorKind.TheVariants.{Interrupted}
use Rattle.mse_outside.specs.Count.{next_count}
use Rattle.mse_outside.specs.Outside.{HasFrontAppended}
use Rattle.mse_outside.specs.declared.sink.Put.{Put}
use Rattle.mse_outside.specs.declared.sink.Put.TheVariants.{Done, Failed, OutOfMemory}

-- What an output tells: the bytes that it has taken, whether it was flushed behind the last of them, how many writes and
-- flushes have failed, and how many writes will be interrupted.
pub record OutputState : Type 0 where
  pub taken : List ℕ
  pub flushed : Bool
  pub faults : ℕ
  pub interrupts : ℕ

-- one more has failed
abbrev pub with_fault : OutputState → OutputState
with_fault s = record s { faults = next_count s.faults }

-- these bytes more were taken
abbrev pub with_bytes : List ℕ → OutputState → OutputState
with_bytes bytes s = record s { taken = s.taken ++ bytes; flushed = false }

-- behind a write that failed with an error of this kind
pub record IsWriteError (old new : OutputState) (kind : ErrorKind) : Type 0 where
  pub interrupted : kind ≡ Interrupted → old ≡ record new { interrupts = new.interrupts + 1 }
  pub failed : kind ≢ Interrupted → new ≡ with_fault old

-- behind a write of these bytes; one that takes none of them, where there are some, has failed
abbrev pub IsWrite : List ℕ → Result ℕ Error → OutputState → OutputState → Type 0
IsWrite bytes (Ok count) old new =
    (0 < count → new ≡ with_bytes (take count bytes) old)
    × (count ≡ 0 → 0 < length bytes → new ≡ with_fault old)
IsWrite bytes (Err error) old new = IsWriteError old new (error_kind error)

-- behind a flush
abbrev pub IsFlush : Result (Unit {0}) Error → OutputState → OutputState → Type 0
IsFlush (Ok u) old new = new ≡ record old { flushed = true }
IsFlush (Err error) old new = new ≡ with_fault old

-- Behind a put of these bytes with this answer. Where it is done, all of them were taken, once and in order, and flushed.
-- It fails only where a write or the flush did, or where 2^64 - 1 writes do not take all, since nearly all of them are
-- interrupted.
abbrev pub IsOutputPut : List ℕ → Put → OutputState → OutputState → Type 0
IsOutputPut bytes Done old new =
    (new.taken ≡ old.taken ++ bytes) × (new.flushed ≡ true) × (new.faults ≡ old.faults)
IsOutputPut bytes Failed old new =
    HasFrontAppended bytes old.taken new.taken
    × ((new.faults ≡ next_count old.faults) ⊎ (2 ^ 64 - 1 ≤ length bytes + old.interrupts))
IsOutputPut bytes OutOfMemory old new = ⊥
