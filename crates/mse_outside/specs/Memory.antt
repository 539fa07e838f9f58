-- The library and the sink in memory.
use Rattle.std.specs.Prelude.{◌≡◌, ◌≢◌, ◌↔◌, ℕ, List, [], ◌∷◌, ◌++◌, Option, Some, None, IsSome, Contains, ◌==◌, if◌then◌else◌, bytes_eq, take}
use Rattle.mse_outside.specs.Count.{next_count}
use Rattle.mse_outside.specs.Outside.{Table}
use Rattle.mse_outside.specs.declared.library.Loaded.{Loaded}
use Rattle.mse_outside.specs.declared.library.Loaded.TheVariants.{Done as LoadDone, NoFile, Failed as LoadFailed, OutOfMemory as LoadOutOfMemory}
use Rattle.mse_outside.specs.declared.sink.Put.{Put}
use Rattle.mse_outside.specs.declared.sink.Put.TheVariants.{Done as PutDone, Failed as PutFailed, OutOfMemory as PutOutOfMemory}

-- names, and at the same places the bytes of their files
pub record Files : Type 0 where
  pub names : List (List ℕ)
  pub contents : List (List ℕ)

-- a library in memory: its files, the numbers of the loads that fail, how many loads there were, how many failed
pub record LibraryState : Type 0 where
  pub files : Files
  pub failing : List ℕ
  pub calls : ℕ
  pub faults : ℕ

-- a sink in memory that never fails: its bytes, and those of each put
pub record SureSinkState : Type 0 where
  pub written : List ℕ
  pub puts : List (List ℕ)

-- a sink in memory: its bytes, those of each put, the numbers of the puts that fail with how many bytes they append, how
-- many puts there were, how many failed
pub record SinkState : Type 0 where
  pub written : List ℕ
  pub puts : List (List ℕ)
  pub failing : List (ℕ × ℕ)
  pub calls : ℕ
  pub faults : ℕ

-- the contents at the place of the first name that is equal
abbrev pub file_at : List (List ℕ) → List (List ℕ) → List ℕ → Option (List ℕ)
file_at [] contents name = None
file_at (first ∷ names) [] name = None
file_at (first ∷ names) (bytes ∷ contents) name =
    if bytes_eq first name then Some bytes else file_at names contents name

-- the table that these files are
abbrev pub table_of : Files → Table
table_of files = file_at files.names files.contents

-- the state after a load with this answer
abbrev pub library_after : LibraryState → Loaded → LibraryState
library_after s LoadDone = record s { calls = next_count s.calls }
library_after s NoFile = record s { calls = next_count s.calls }
library_after s LoadFailed = record s { calls = next_count s.calls; faults = next_count s.faults }
library_after s LoadOutOfMemory = record s { calls = next_count s.calls }

-- A load of this name with this answer: it failed just where its number is one of those that fail. `NoFile` comes only
-- where there is no such file, and `Done` only where there is one.
pub record IsMemoryLoad (old : LibraryState) (name : List ℕ) (answer : Loaded)
    (new : LibraryState) : Type 0 where
  pub state : new ≡ library_after old answer
  pub failed : (answer ≡ LoadFailed) ↔ Contains old.failing (next_count old.calls)
  pub missing : answer ≡ NoFile → table_of old.files name ≡ None
  pub found : answer ≡ LoadDone → IsSome (table_of old.files name)

-- A load of this name with this answer, where no load fails.
pub record IsSureLoad (old : Files) (name : List ℕ) (answer : Loaded) (new : Files) : Type 0 where
  pub state : new ≡ old
  pub sure : answer ≢ LoadFailed
  pub missing : answer ≡ NoFile → table_of old name ≡ None
  pub found : answer ≡ LoadDone → IsSome (table_of old name)

-- how many bytes the put of this number appends, where it fails: the first pair of that number says it
abbrev pub failed_len_at : List (ℕ × ℕ) → ℕ → Option ℕ
failed_len_at [] call = None
failed_len_at (pair ∷ failing) call =
    if pair.0 == call then Some pair.1 else failed_len_at failing call

-- the bytes that a put appends: all, or where it fails the first of them
abbrev pub appended_by : Option ℕ → List ℕ → List ℕ
appended_by None bytes = bytes
appended_by (Some count) bytes = take count bytes

-- the state after a put with this answer
abbrev pub after_put : SinkState → List ℕ → Put → SinkState
after_put s bytes PutDone = record s {
  written = s.written ++ bytes;
  puts = s.puts ++ bytes ∷ [];
  calls = next_count s.calls;
}
after_put s bytes PutFailed = record s {
  written = s.written ++ appended_by (failed_len_at s.failing (next_count s.calls)) bytes;
  puts = s.puts ++ bytes ∷ [];
  calls = next_count s.calls;
  faults = next_count s.faults;
}
after_put s bytes PutOutOfMemory = record s { calls = next_count s.calls }
