-- What a library of files and a sink of bytes answer, and when.
use Rattle.std.specs.Prelude.{ℕ, ◌+◌, ◌<◌, ◌≤◌, ◌≡◌, ◌⊎◌, List, [], ◌∷◌, ◌++◌, length, Option, None, IfSome, IsSomeAnd}
use Rattle.mse_outside.specs.Count.{next_count}
use Rattle.mse_outside.specs.declared.library.Loaded.{Loaded}
use Rattle.mse_outside.specs.declared.library.Loaded.TheVariants.{Done as LoadDone, NoFile, Failed as LoadFailed, OutOfMemory as LoadOutOfMemory}
use Rattle.mse_outside.specs.declared.sink.Put.{Put}
use Rattle.mse_outside.specs.declared.sink.Put.TheVariants.{Done as PutDone, Failed as PutFailed, OutOfMemory as PutOutOfMemory}

-- a count rose, or stands at its end
abbrev pub HasRisen : ℕ → ℕ → Type 0
HasRisen before now = next_count before ≤ now

-- the bytes of a file by its name, where there is such a file
abbrev pub Table : Type 0
Table = List ℕ → Option (List ℕ)

-- bytes were appended
abbrev pub HasBytesAppended : List ℕ → List ℕ → Type 0
HasBytesAppended old new = (more : List ℕ) × (new ≡ old ++ more)

-- a front part of the bytes was appended
abbrev pub HasFrontAppended : List ℕ → List ℕ → List ℕ → Type 0
HasFrontAppended bytes old new =
    (front : List ℕ) × (rest : List ℕ) × (bytes ≡ front ++ rest) × (new ≡ old ++ front)

-- a front part of the bytes was appended, and not all of them, unless there are none
abbrev pub HasPartAppended : List ℕ → List ℕ → List ℕ → Type 0
HasPartAppended bytes old new =
    HasFrontAppended bytes old new × (0 < length bytes → length new < length old + length bytes)

-- what the answer to a load says of the file in a told table, and of the buffer
abbrev pub IsLoadEffect : Option (List ℕ) → List ℕ → List ℕ → Loaded → Type 0
IsLoadEffect file old new LoadDone = IsSomeAnd file (λ bytes. new ≡ old ++ bytes)
IsLoadEffect file old new NoFile = file ≡ None
IsLoadEffect file old new LoadFailed = Unit {0}
IsLoadEffect file old new LoadOutOfMemory = Unit {0}

-- The files of these names were loaded, one after the other: `load_gives` tells of each load the library before it, the
-- name, the answer, and the library behind it.
abbrev pub AreLoaded : {L : Type 0} → (L → List ℕ → Loaded → L → Type 0) → List (List ℕ) → L → L
    → Type 0
AreLoaded load_gives [] old new = new ≡ old
AreLoaded {L} load_gives (name ∷ names) old new =
    (middle : L) × load_gives old name LoadDone middle × AreLoaded load_gives names middle new

-- The files of these names were loaded in order up to the one called `name`, whose load failed.
pub record IsFailedLoad {L : Type 0} (load_gives : L → List ℕ → Loaded → L → Type 0)
    (names : List (List ℕ)) (name : List ℕ) (old new : L) : Type 0 where
  pub before : List (List ℕ)
  pub after : List (List ℕ)
  pub names_are : names ≡ before ++ name ∷ after
  pub middle : L
  pub loaded : AreLoaded load_gives before old middle
  pub failed : load_gives middle name LoadFailed new

-- What a sink tells of what it was given: the bytes that it appended, and the bytes that each put handed over, in order.
pub record SinkView : Type 0 where
  pub bytes : Option (List ℕ)
  pub puts : Option (List (List ℕ))

abbrev pub sink_view : Option (List ℕ) → Option (List (List ℕ)) → SinkView
sink_view bytes puts = record { bytes = bytes; puts = puts }

-- what the answer to a put says of the bytes that were appended
abbrev pub IsPutAppended : List ℕ → List ℕ → List ℕ → Put → Type 0
IsPutAppended bytes old new PutDone = new ≡ old ++ bytes
IsPutAppended bytes old new PutFailed = HasFrontAppended bytes old new
IsPutAppended bytes old new PutOutOfMemory = HasPartAppended bytes old new

-- what it says of the puts: this one came; one that found no memory may not be told
abbrev pub IsPutListed : List ℕ → List (List ℕ) → List (List ℕ) → Put → Type 0
IsPutListed bytes old new PutDone = new ≡ old ++ bytes ∷ []
IsPutListed bytes old new PutFailed = new ≡ old ++ bytes ∷ []
IsPutListed bytes old new PutOutOfMemory = (new ≡ old ++ bytes ∷ []) ⊎ (new ≡ old)

-- something holds of what was told and of what is; a sink that tells goes on telling
abbrev pub IfTold : {X : Type 0} → Option X → Option X → (X → X → Type 0) → Type 0
IfTold old new holds = IfSome old (λ before. IsSomeAnd new (λ now. holds before now))

-- what the answer to a put says of what the sink tells
pub record IsPutEffect (bytes : List ℕ) (old new : SinkView) (answer : Put) : Type 0 where
  pub appended : IfTold old.bytes new.bytes (λ before now. IsPutAppended bytes before now answer)
  pub listed : IfTold old.puts new.puts (λ before now. IsPutListed bytes before now answer)
