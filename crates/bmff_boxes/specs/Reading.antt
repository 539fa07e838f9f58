-- Readings that give a value or the first fault, in the order in which they are written.
use Rattle.std.specs.Prelude.{◌≡◌, Bool, true, if◌then◌else◌, Option, Result, Ok, Err}
use Rattle.std.specs.Option.{ok_or}
use Rattle.bmff_boxes.specs.declared.reading.ReadError.{ReadError}
use Rattle.bmff_boxes.specs.declared.reading.ReadError.TheVariants.{OutOfMemory, Fault}

infixl 10 ◌>>=◌
abbrev pub ◌>>=◌ : {A B F : Type 0} → Result A F → (A → Result B F) → Result B F
(Ok x) >>= next = next x
(Err fault) >>= next = Err fault

-- what has to be there, and the fault where it is not
abbrev pub need : {A F : Type 0} → F → Option A → Result A F
need fault there = ok_or there fault

-- a test, and the fault where it fails
abbrev pub check : {F : Type 0} → F → Bool → Result Bool F
check fault passes = if passes then Ok true else Err fault

-- a call that reads may find no memory; else its error is the fault
abbrev pub Fails : {Y F : Type 0} → ReadError F → Result Y F → Type 0
Fails OutOfMemory read = Unit {0}
Fails (Fault fault) read = read ≡ Err fault

-- what a call answers, seen by `view`, is what reading gives, unless memory ran out
abbrev pub Gives : {X Y F : Type 0} → (X → Y) → Result X (ReadError F) → Result Y F → Type 0
Gives view (Ok x) read = read ≡ Ok (view x)
Gives view (Err error) read = Fails error read
