-- What the loop over the reads of an open file comes to, where the file tells what is left of it.
use Rattle.std.specs.Prelude.{◌≡◌, ◌<◌, ◌≤◌, ◌+◌, ◌-◌, ◌^◌, ℕ, true, false, List, ◌++◌, length, Result, Ok, Err}
use Rattle.mse_outside.specs.Source.{Unread}
use Rattle.mse_outside.specs.declared.folder.ReadStop.{ReadStop}
use Rattle.mse_outside.specs.declared.folder.ReadStop.TheVariants.{TooLong, Reader, OutOfMemory as StopOutOfMemory, Endless}
use Rattle.mse_outside.specs.declared.library.Loaded.{Loaded}
use Rattle.mse_outside.specs.declared.library.Loaded.TheVariants.{Done as LoadDone, Failed as LoadFailed, OutOfMemory as LoadOutOfMemory}

-- all that was left was appended, at most so many bytes; or why not
abbrev pub IsReadThrough : ℕ → Unread → List ℕ → List ℕ → Result (Unit {0}) ReadStop → Type 0
IsReadThrough most left old new (Ok u) =
    (new ≡ old ++ left.bytes) × (length left.bytes ≤ most) × (left.broken ≡ false)
IsReadThrough most left old new (Err TooLong) = most < length left.bytes
IsReadThrough most left old new (Err (Reader kind)) = left.broken ≡ true
IsReadThrough most left old new (Err StopOutOfMemory) = Unit {0}
IsReadThrough most left old new (Err Endless) = 2 ^ 64 - 1 ≤ length left.bytes + left.interrupts

-- a load is done where the file was read to its end; each other stop but out of memory is a failure
abbrev pub answer_to_read : Result (Unit {0}) ReadStop → Loaded
answer_to_read (Ok u) = LoadDone
answer_to_read (Err TooLong) = LoadFailed
answer_to_read (Err (Reader kind)) = LoadFailed
answer_to_read (Err StopOutOfMemory) = LoadOutOfMemory
answer_to_read (Err Endless) = LoadFailed
