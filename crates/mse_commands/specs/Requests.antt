-- What the words ask for, by the files of a library (docs/SCRIPTS.md, commands).
use Rattle.std.specs.Prelude.{◌≡◌, ℕ, ◌^◌, pos, List, [], ◌∷◌, length, filter_map, Option, Some, None, Result, Ok, Err, ⊤}
use Rattle.mse_outside.specs.Outside.{Table}
use Rattle.bmff_boxes.specs.Reading.{◌>>=◌, need}
use Rattle.bmff_write.specs.Made.{made_bytes}
use Rattle.call_script.specs.declared.fault.ScriptFault.{ScriptFault}
use Rattle.call_script.specs.declared.script.BlobText.{BlobText}
use Rattle.call_script.specs.declared.script.BlobText.TheVariants.{File, Hex}
use Rattle.call_script.specs.declared.script.Script.{Script as CallScript}
use Rattle.call_script.specs.Script.{read_of}
use Rattle.mse_engine.specs.State.{State, opening_state}
use Rattle.mse_commands.specs.declared.ending.End.{End}
use Rattle.mse_commands.specs.declared.ending.End.TheVariants.{Words, NoFile, Script}
use Rattle.mse_commands.specs.declared.words.Command.{Command}
use Rattle.mse_commands.specs.declared.words.Command.TheVariants.{Ranges, Pieces, Make, Play, Remux, Feed}
use Rattle.mse_commands.specs.Words.{command_of, file_of}

-- the bytes of a file
abbrev pub file_bytes : Table → List ℕ → Result (List ℕ) End
file_bytes files name = need (NoFile name) (files name)

-- those of the blobs of a script, up to the first file that is not there
abbrev pub blob_bytes : Table → BlobText → Result (List ℕ) End
blob_bytes files (File name) = file_bytes files name
blob_bytes files (Hex bytes) = Ok bytes

abbrev pub blobs_bytes : Table → List BlobText → Result (List (List ℕ)) End
blobs_bytes files [] = Ok []
blobs_bytes files (text ∷ texts) = do
  bytes ← blob_bytes files text
  others ← blobs_bytes files texts
  Ok (bytes ∷ others)

-- a script that was read, or its fault
abbrev pub script_or_fault : Result CallScript ScriptFault → Result CallScript End
script_or_fault (Ok script) = Ok script
script_or_fault (Err fault) = Err (Script fault)

-- What is run: a script with the bytes of its blobs, a file that is appended, or a classic file that is turned into
-- fragments.
pub data Task : Type 0 where
  ByScript : CallScript → List (List ℕ) → Task
  ByFile : Command → List ℕ → Task
  ByRemux : List ℕ → Task

abbrev pub script_of_file : Table → List ℕ → Result CallScript End
script_of_file files name = do
  bytes ← file_bytes files name
  script_or_fault (read_of bytes)

abbrev pub script_task : Table → List ℕ → Result Task End
script_task files name = do
  script ← script_of_file files name
  blobs ← blobs_bytes files script.blobs
  Ok (ByScript script blobs)

-- the bytes that a command appends: those of a file, or those that it makes
abbrev pub file_by : Table → List ℕ → Command → Result (List ℕ) End
file_by files name (Make count) = Ok (made_bytes count)
file_by files name other = file_bytes files name

-- the command appends a file
abbrev pub IsFileCommand : Command → Type 0
IsFileCommand Ranges = ⊤
IsFileCommand (Pieces count) = ⊤
IsFileCommand (Make count) = ⊤
IsFileCommand (Feed at) = ⊤
IsFileCommand Play = ⊥
IsFileCommand Remux = ⊥

abbrev pub file_task : Table → List ℕ → Command → Result Task End
file_task files name command = do
  bytes ← file_by files name command
  Ok (ByFile command bytes)

abbrev pub remux_task : Table → List ℕ → Result Task End
remux_task files name = do
  bytes ← file_bytes files name
  Ok (ByRemux bytes)

-- ---- with the files that are loaded for it

-- the name of a blob's file
abbrev pub blob_file_name : BlobText → Option (List ℕ)
blob_file_name (File name) = Some name
blob_file_name (Hex bytes) = None

abbrev pub blob_file_names : List BlobText → List (List ℕ)
blob_file_names texts = filter_map blob_file_name texts

-- the names of the files that a script names
abbrev pub files_of_script : Result CallScript End → List (List ℕ)
files_of_script (Ok script) = blob_file_names script.blobs
files_of_script (Err end) = []

-- the names of the files that a command loads
abbrev pub files_by : List ℕ → Command → List (List ℕ)
files_by name (Make count) = []
files_by name other = name ∷ []

-- What the words ask of the files of a library: the names of those that are loaded, in the order of loading, and what is
-- run, or why nothing is.
pub record Request : Type 0 where
  pub files : Table
  pub names : List (List ℕ)
  pub task : Result Task End

abbrev pub file_request : Table → List ℕ → Command → Request
file_request files name command =
    record { files = files; names = files_by name command; task = file_task files name command }

abbrev pub remux_request : Table → List ℕ → Request
remux_request files name = record { files = files; names = name ∷ []; task = remux_task files name }

abbrev pub script_request : Table → List ℕ → Request
script_request files name = record {
  files = files;
  names = name ∷ files_of_script (script_of_file files name);
  task = script_task files name;
}

abbrev pub request_of : Table → List ℕ → Option Command → Request
request_of files name None = record { files = files; names = []; task = Err Words }
request_of files name (Some Play) = script_request files name
request_of files name (Some Remux) = remux_request files name
request_of files name (Some other) = file_request files name other

-- What is run, or why nothing is: the words are no command, the first file in order of loading that is not there, or the
-- fault of the script. All files are loaded before anything is run.
abbrev pub request_in : Table → List (List ℕ) → Request
request_in files words = request_of files (file_of words) (command_of words)

-- ---- of a library that tells no files

-- some bytes read as this script or fault
abbrev pub IsReadOf : Result CallScript ScriptFault → Type 0
IsReadOf found = (bytes : List ℕ) × (read_of bytes ≡ found)

-- a task of the command, whose bytes nobody tells
abbrev pub IsTaskOf : Command → Task → Type 0
IsTaskOf Ranges (ByFile command bytes) = command ≡ Ranges
IsTaskOf (Pieces count) (ByFile command bytes) = command ≡ Pieces count
IsTaskOf (Make count) (ByFile command bytes) = (command ≡ Make count) × (bytes ≡ made_bytes count)
IsTaskOf (Feed at) (ByFile command bytes) = command ≡ Feed at
IsTaskOf Play (ByScript script blobs) = IsReadOf (Ok script) × (length blobs ≡ length script.blobs)
IsTaskOf Remux (ByRemux bytes) = ⊤
IsTaskOf command task = ⊥

-- why there may be none: a file is not there, or a script has a fault; what is made is always there
abbrev pub IsLackOf : Command → End → Type 0
IsLackOf (Make count) end = ⊥
IsLackOf Play (Script fault) = IsReadOf (Err fault)
IsLackOf command (NoFile name) = ⊤
IsLackOf command end = ⊥

abbrev pub IsTaskOrLack : Command → Result Task End → Type 0
IsTaskOrLack command (Ok task) = IsTaskOf command task
IsTaskOrLack command (Err end) = IsLackOf command end

abbrev pub IsRequestOfCommand : Option Command → Request → Type 0
IsRequestOfCommand None request = (request.names ≡ []) × (request.task ≡ Err Words)
IsRequestOfCommand (Some command) request = IsTaskOrLack command request.task

-- ---- of any library

-- What a command asks for of a library that may tell its files: just what these say, or what they may be.
abbrev pub IsRequestOf : Option Table → List ℕ → Option Command → Request → Type 0
IsRequestOf (Some files) name command request = request ≡ request_of files name command
IsRequestOf None name command request = IsRequestOfCommand command request

-- something holds of what a command asks for
abbrev pub HasRequestOfCommand : Option Table → List ℕ → Option Command → (Request → Type 0)
    → Type 0
HasRequestOfCommand table name command P =
    (request : Request) × IsRequestOf table name command request × P request

-- something holds of what the words ask for
abbrev pub HasRequestOfWords : Option Table → List (List ℕ) → (Request → Type 0) → Type 0
HasRequestOfWords table words P = HasRequestOfCommand table (file_of words) (command_of words) P

-- ---- what runs

abbrev pub blobs_of : Task → List (List ℕ)
blobs_of (ByScript script blobs) = blobs
blobs_of (ByFile command bytes) = bytes ∷ []
blobs_of (ByRemux bytes) = []

-- a file meets no quota
abbrev pub opening_of : Task → State
opening_of (ByScript script blobs) = opening_state script.quota (pos script.gap)
opening_of (ByFile command bytes) = opening_state (2 ^ 62) (pos 0)
opening_of (ByRemux bytes) = opening_state (2 ^ 62) (pos 0)
