-- The file whose load failed.
use Rattle.std.proofs.Common.{◌≡◌, ◌+◌, ◌<◌, ℕ, List, [], ◌∷◌, ◌++◌, refl, ap, sym, ◌∙◌, subst, append_assoc, length, get_or, take, drop, inl, inr}
use Rattle.std.specs.Prelude.{Bool, Option, Some, None, IfSome, Result, Ok, Err, IsErrOf, ◌⊎◌}
use Rattle.std.proofs.lemmas.List.Elements.{filter_map-append}
use Rattle.call_script.specs.declared.script.BlobText.{BlobText}
use Rattle.call_script.specs.declared.script.Script.{Script as CallScript}
use Rattle.mse_outside.specs.Outside.{AreLoaded, IsFailedLoad, SinkView, Table}
use Rattle.mse_outside.specs.declared.library.Loaded.{Loaded}
use Rattle.mse_outside.specs.declared.library.Loaded.TheVariants.{Done as LoadDone, Failed as LoadFailed}
use Rattle.script_run.specs.Writes.{IsWritten}
use Rattle.mse_commands.specs.declared.ending.End.{End}
use Rattle.mse_commands.specs.declared.ending.End.TheVariants.{Memory, Write, Words, NoFile, Read, Script, CallBudget, TaskBudget}
use Rattle.mse_commands.specs.declared.ending.Status.{Status}
use Rattle.mse_commands.specs.declared.ending.Status.TheVariants as status
use Rattle.mse_commands.specs.declared.words.Command.{Command}
use Rattle.mse_commands.specs.declared.words.Command.TheVariants.{Ranges, Pieces, Make, Play, Remux, Feed}
use Rattle.mse_commands.specs.Endings.{error_line, status_of}
use Rattle.mse_commands.specs.Loads.{IsUnmade}
use Rattle.mse_commands.specs.Outcomes.{RunOutcome}
use Rattle.mse_commands.specs.Requests.{HasRequestOfCommand, HasRequestOfWords, IsFileCommand, IsLackOf, Request, Task, blob_file_name, blob_file_names, file_request, files_by, files_of_script, remux_request, script_of_file, script_request}
use Rattle.mse_commands.specs.Says.{IsEndSaid, IsFailedLoadSaid, IsLineSaid}
use Rattle.mse_commands.specs.Works.{IsRequestDone, IsRequestDoneBy}
use Rattle.mse_commands.proofs.DoneTasks.{file_request_is, no_request}
use Rattle.mse_commands.proofs.LoadedFiles.{more_at, parts_at}

-- ---- rows of loads

pub loaded_one : {L : Type 0} (gives : L → List ℕ → Loaded → L → Type 0) (name : List ℕ) (old new : L) → gives old name LoadDone new → AreLoaded gives (name ∷ []) old new
loaded_one gives name old new h = (new, h, refl)

pub loaded_more : {L : Type 0} (gives : L → List ℕ → Loaded → L → Type 0) (names more : List (List ℕ)) (old middle new : L) → AreLoaded gives names old middle → AreLoaded gives more middle new
    → AreLoaded gives (names ++ more) old new
loaded_more {L} gives [] more old middle new p q = subst (λ (x : L). AreLoaded gives more x new) p q
loaded_more gives (name ∷ names) more old middle new p q = (p.0, p.1, loaded_more gives names more p.0 middle new p.2 q)

-- behind others that were loaded
pub failed_behind : {L : Type 0} (gives : L → List ℕ → Loaded → L → Type 0) (names more : List (List ℕ)) (name : List ℕ) (old middle new : L) → AreLoaded gives names old middle
    → IsFailedLoad gives more name middle new → IsFailedLoad gives (names ++ more) name old new
failed_behind gives names more name old middle new p q = record {
  before = names ++ q.before;
  after = q.after;
  names_are = ap (λ (x : List (List ℕ)). names ++ x) q.names_are ∙ sym (append_assoc names q.before (name ∷ q.after));
  middle = q.middle;
  loaded = loaded_more gives names q.before old middle q.middle p q.loaded;
  failed = q.failed;
}

-- before others
pub failed_before : {L : Type 0} (gives : L → List ℕ → Loaded → L → Type 0) (names more : List (List ℕ)) (name : List ℕ) (old new : L) → IsFailedLoad gives names name old new
    → IsFailedLoad gives (names ++ more) name old new
failed_before gives names more name old new p = record {
  before = p.before;
  after = p.after ++ more;
  names_are = ap (λ (x : List (List ℕ)). x ++ more) p.names_are ∙ append_assoc p.before (name ∷ p.after) more;
  middle = p.middle;
  loaded = p.loaded;
  failed = p.failed;
}

-- ---- one file

pub error_of : {A : Type 0} (end : End) (other : List ℕ) → IsErrOf {T = A} (Err end) (Read other) → end ≡ Read other
error_of end other e = cc (e)

-- the load of a file failed, and the end names it, or there was no memory for the name
pub failed_one : {A L : Type 0} (gives : L → List ℕ → Loaded → L → Type 0) (name other : List ℕ) (old new : L) (end : End) → gives old name LoadFailed new → (end ≡ Memory) ⊎ (end ≡ Read name)
    → IsErrOf {T = A} (Err end) (Read other) → IsFailedLoad gives (name ∷ []) other old new
failed_one gives name other old new end h (inl is) e = absurd (cc (is, e))
failed_one gives name other old new end h (inr is) e =
    let same : name ≡ other = cc (is, e) in
    subst (λ (x : List ℕ). IsFailedLoad gives (name ∷ []) x old new) same (record { before = []; after = []; names_are = refl; middle = old; loaded = refl; failed = h })

-- a file that is not there is no failed load
pub not_failed : {A L : Type 0} (gives : L → List ℕ → Loaded → L → Type 0) (names : List (List ℕ)) (name other : List ℕ) (old new : L) (end : End) → (end ≡ Memory) ⊎ (end ≡ NoFile name)
    → IsErrOf {T = A} (Err end) (Read other) → IsFailedLoad gives names other old new
not_failed gives names name other old new end (inl is) e = absurd (cc (is, e))
not_failed gives names name other old new end (inr is) e = absurd (cc (is, e))

-- ---- blobs

-- the files of the blobs up to a place, and of the one there
names_at : (texts : List BlobText) (i : ℕ) (text : BlobText) → i < length texts → text ≡ get_or texts i text
    → blob_file_names (take (i + 1) texts) ≡ blob_file_names (take i texts) ++ blob_file_names (text ∷ [])
names_at texts i text h is = ap (λ (x : List BlobText). blob_file_names x) (more_at texts i text h is) ∙ filter_map-append blob_file_name (take i texts) (text ∷ [])

pub loaded_at : {L : Type 0} (gives : L → List ℕ → Loaded → L → Type 0) (texts : List BlobText) (i : ℕ) (text : BlobText) (old middle new : L) → i < length texts → text ≡ get_or texts i text
    → AreLoaded gives (blob_file_names (take i texts)) old middle → AreLoaded gives (blob_file_names (text ∷ [])) middle new → AreLoaded gives (blob_file_names (take (i + 1) texts)) old new
loaded_at gives texts i text old middle new h is p q =
    subst (λ (x : List (List ℕ)). AreLoaded gives x old new) (sym (names_at texts i text h is))
    (loaded_more gives (blob_file_names (take i texts)) (blob_file_names (text ∷ [])) old middle new p q)

pub failed_at : {L : Type 0} (gives : L → List ℕ → Loaded → L → Type 0) (texts : List BlobText) (i : ℕ) (text : BlobText) (name : List ℕ) (old middle new : L) → i < length texts
    → text ≡ get_or texts i text → AreLoaded gives (blob_file_names (take i texts)) old middle → IsFailedLoad gives (blob_file_names (text ∷ [])) name middle new
    → IsFailedLoad gives (blob_file_names texts) name old new
failed_at gives texts i text name old middle new h is p q =
    let rest : List BlobText = drop (i + 1) texts in
    let parts : blob_file_names texts ≡ blob_file_names (take i texts) ++ (blob_file_names (text ∷ []) ++ blob_file_names rest) =
    ap (λ (x : List BlobText). blob_file_names x) (parts_at texts i text h is)
    ∙ filter_map-append blob_file_name (take i texts) (text ∷ rest)
    ∙ ap (λ (x : List (List ℕ)). blob_file_names (take i texts) ++ x) (filter_map-append blob_file_name (text ∷ []) rest) in
    subst (λ (x : List (List ℕ)). IsFailedLoad gives x name old new) (sym parts)
    (failed_behind gives (blob_file_names (take i texts)) (blob_file_names (text ∷ []) ++ blob_file_names rest) name old middle new p
    (failed_before gives (blob_file_names (text ∷ [])) (blob_file_names rest) name middle new q))

-- ---- what was asked for

lack_of_file : (command : Command) (other : List ℕ) → IsFileCommand command → IsUnmade command (Read other) → IsLackOf command (NoFile [])
lack_of_file Ranges other f u = tt
lack_of_file (Pieces count) other f u = tt
lack_of_file (Make count) other f u = absurd (cc (u))
lack_of_file (Feed at) other f u = tt
lack_of_file Remux other f u = absurd f
lack_of_file Play other f u = absurd f

pub file_failed : {L : Type 0} (gives : L → List ℕ → Loaded → L → Type 0) (table : Option Table) (name : List ℕ) (command : Command) (end : End) (other : List ℕ) (old new : L)
    → IsFileCommand command → IsUnmade command end → end ≡ Read other → IsFailedLoad gives (files_by name command) other old new
    → HasRequestOfCommand table name (Some command) (λ request. IsFailedLoad gives request.names other old new)
file_failed gives None name command end other old new f u is p = (no_request (files_by name command) (NoFile []), lack_of_file command other f (subst (λ (x : End). IsUnmade command x) is u), p)
file_failed gives (Some files) name command end other old new f u is p = (file_request files name command, file_request_is files name command f, p)

pub remux_failed : {L : Type 0} (gives : L → List ℕ → Loaded → L → Type 0) (table : Option Table) (name other : List ℕ) (old new : L) → IsFailedLoad gives (name ∷ []) other old new
    → HasRequestOfCommand table name (Some Remux) (λ request. IsFailedLoad gives request.names other old new)
remux_failed gives None name other old new p = (no_request (name ∷ []) (NoFile []), tt, p)
remux_failed gives (Some files) name other old new p = (remux_request files name, refl, p)

-- the script itself
pub script_failed : {L : Type 0} (gives : L → List ℕ → Loaded → L → Type 0) (table : Option Table) (name other : List ℕ) (old new : L) → IsFailedLoad gives (name ∷ []) other old new
    → HasRequestOfCommand table name (Some Play) (λ request. IsFailedLoad gives request.names other old new)
script_failed gives None name other old new p = (no_request (name ∷ []) (NoFile []), tt, p)
script_failed gives (Some files) name other old new p = (script_request files name, refl, failed_before gives (name ∷ []) (files_of_script (script_of_file files name)) other old new p)

-- a blob of it
pub blob_failed : {L : Type 0} (gives : L → List ℕ → Loaded → L → Type 0) (table : Option Table) (name : List ℕ) (script : CallScript) (other : List ℕ) (old middle new : L)
    → IfSome table (λ files. script_of_file files name ≡ Ok script) → AreLoaded gives (name ∷ []) old middle → IsFailedLoad gives (blob_file_names script.blobs) other middle new
    → HasRequestOfCommand table name (Some Play) (λ request. IsFailedLoad gives request.names other old new)
blob_failed gives None name script other old middle new read p q =
    (no_request (name ∷ blob_file_names script.blobs) (NoFile []), tt, failed_behind gives (name ∷ []) (blob_file_names script.blobs) other old middle new p q)
blob_failed gives (Some files) name script other old middle new read p q =
    let names : files_of_script (script_of_file files name) ≡ blob_file_names script.blobs = ap (λ (x : Result CallScript End). files_of_script x) read in (
      script_request files name,
      refl,
      subst (λ (x : List (List ℕ)). IsFailedLoad gives (name ∷ x) other old new) (sym names) (failed_behind gives (name ∷ []) (blob_file_names script.blobs) other old middle new p q),
    )

-- ---- the line that names it

not_wanting : (s : Status) → (s ≡ status.Write) ⊎ (s ≡ status.Memory) → s ≡ status.Read → ⊥
not_wanting s (inl e) is = cc (sym e ∙ is)
not_wanting s (inr e) is = cc (sym e ∙ is)

line_read : (end : End) (old new : SinkView) (s : Status) → IsLineSaid end old new s → s ≡ status.Read → (status_of end ≡ status.Read) × IsWritten (error_line end ∷ []) old new
line_read end old new s (inl p) is = (sym p.status_is ∙ is, p.wrote)
line_read end old new s (inr p) is = absurd (not_wanting s p.wanting is)

-- the status of a failed load comes of the end that names it, and of its line
read_said : (end : End) (old new : SinkView) (s : Status) → IsEndSaid end old new s → s ≡ status.Read → (name : List ℕ) × (end ≡ Read name) × IsWritten (error_line (Read name) ∷ []) old new
read_said Memory old new s p is = absurd (not_wanting s (inr p.0) is)
read_said Write old new s p is = absurd (not_wanting s (inl p.0) is)
read_said (Read name) old new s p is = (name, refl, (line_read (Read name) old new s p is).1)
read_said Words old new s p is = absurd (cc ((line_read Words old new s p is).0))
read_said (NoFile name) old new s p is = absurd (cc ((line_read (NoFile name) old new s p is).0))
read_said (Script fault) old new s p is = absurd (cc ((line_read (Script fault) old new s p is).0))
read_said (CallBudget k) old new s p is = absurd (cc ((line_read (CallBudget k) old new s p is).0))
read_said (TaskBudget limit) old new s p is = absurd (cc ((line_read (TaskBudget limit) old new s p is).0))

-- nothing was written before that line
nothing_written : (count : ℕ) (request : Request) (task : Result Task End) (left : RunOutcome) (name : List ℕ) → IsRequestDoneBy count request task left (Err (Read name))
    → left.now.written ≡ left.before.written
nothing_written count request (Ok task) left name p = p.0.wrote
nothing_written count request (Err end) left name p = p.0.wrote

pub failed_load_said : {L : Type 0} (gives : L → List ℕ → Loaded → L → Type 0) (table : Option Table) (words : List (List ℕ)) (count : ℕ) (left : RunOutcome) (end : End) (old new : L)
    (written : SinkView) (s : Status) → HasRequestOfWords table words (λ request. IsRequestDone count request left (Err end))
    → ((other : List ℕ) → IsErrOf {T = Bool} (Err end) (Read other) → HasRequestOfWords table words (λ request. IsFailedLoad gives request.names other old new))
    → IsEndSaid end left.now.written written s → s ≡ status.Read
    → HasRequestOfWords table words (λ request. IsFailedLoadSaid gives request.names (old, new) left.before.written written)
failed_load_said gives table words count left end old new written s done failed says is =
    let read = read_said end left.now.written written s says is in
    let named = failed read.0 (ap (λ (x : End). Err x) read.1) in
    let same : left.now.written ≡ left.before.written =
    nothing_written count done.0 done.0.task left read.0 (subst (λ (x : End). IsRequestDone count done.0 left (Err x)) read.1 done.2) in (
      named.0,
      named.1,
      record { name = read.0; failed = named.2; wrote = subst (λ (x : SinkView). IsWritten (error_line (Read read.0) ∷ []) x written) same read.2 },
    )
