-- Why something of a library was not loaded.
use Rattle.std.specs.Prelude.{◌≡◌, ◌≤◌, ℕ, List, [], ◌∷◌, ◌++◌, All, Option, IsSome, IfSome, Result, Err, IsErrAnd, IsErrOf, ⊤}
use Rattle.bmff_write.specs.Made.{made_bytes}
use Rattle.mse_outside.specs.Outside.{Table, HasRisen}
use Rattle.mse_commands.specs.declared.ending.End.{End}
use Rattle.mse_commands.specs.declared.ending.End.TheVariants.{Memory, Write, Words, NoFile, Read, Script, CallBudget, TaskBudget}
use Rattle.mse_commands.specs.declared.words.Command.{Command}
use Rattle.mse_commands.specs.declared.words.Command.TheVariants.{Make}
use Rattle.mse_commands.specs.Requests.{IsReadOf, script_of_file}

-- a file of this name is one of those that are loaded, and all that are named before it are there
pub record IsReached (files : Table) (names : List (List ℕ)) (name : List ℕ) : Type 0 where
  pub before : List (List ℕ)
  pub after : List (List ℕ)
  pub names_are : names ≡ before ++ name ∷ after
  pub there : All (λ other. IsSome (files other)) before

-- counts of failures, before something was done and behind it
pub record Failures : Type 0 where
  pub before : ℕ
  pub now : ℕ

abbrev pub failures : ℕ → ℕ → Failures
failures before now = record { before = before; now = now }

-- A file that these ask for is not there; or the library counted a failure at one of the files of
-- these names, or there was no memory.
abbrev pub IsLoadEnd : {A : Type 0} → Option Table → Failures → List (List ℕ)
    → (Table → Result A End) → End → Type 0
IsLoadEnd table faults names told Memory = ⊤
IsLoadEnd table faults names told (Read name) =
    HasRisen faults.before faults.now × IfSome table (λ files. IsReached files names name)
IsLoadEnd table faults names told (NoFile name) =
    IfSome table (λ files. told files ≡ Err (NoFile name))
IsLoadEnd table faults names told (Script fault) = ⊥
IsLoadEnd table faults names told Write = ⊥
IsLoadEnd table faults names told Words = ⊥
IsLoadEnd table faults names told (CallBudget k) = ⊥
IsLoadEnd table faults names told (TaskBudget limit) = ⊥

-- why a script was not loaded: the same, or it has a fault
abbrev pub IsScriptEnd : Option Table → Failures → List ℕ → End → Type 0
IsScriptEnd table faults name (Script fault) =
    IsReadOf (Err fault) × IfSome table (λ files. script_of_file files name ≡ Err (Script fault))
IsScriptEnd table faults name other =
    IsLoadEnd table faults (name ∷ []) (λ files. script_of_file files name) other

-- how something may end of which a load has failed: it says so, or there was no memory for the name
abbrev pub IsEndOfFailedLoad : End → Type 0
IsEndOfFailedLoad (Read name) = ⊤
IsEndOfFailedLoad Memory = ⊤
IsEndOfFailedLoad other = ⊥

-- A library's count of failures never falls: it rose, or stands at its end, where the end names a failed load, and it stayed
-- unless the end is one of a failed load.
pub record AreFailedLoadsTold {T : Type 0} (old new : ℕ) (result : Result T End) : Type 0 where
  pub no_fewer : old ≤ new
  pub cause : (name : List ℕ) → IsErrOf result (Read name) → HasRisen old new
  pub told : ¬ IsErrAnd result IsEndOfFailedLoad → new ≡ old

-- What is made is the file of the number, and only memory may be wanting for it.
abbrev pub IsMade : Command → List ℕ → Type 0
IsMade (Make count) bytes = bytes ≡ made_bytes count
IsMade other bytes = ⊤

abbrev pub IsUnmade : Command → End → Type 0
IsUnmade (Make count) end = end ≡ Memory
IsUnmade other end = ⊤
