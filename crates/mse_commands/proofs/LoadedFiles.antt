-- What was loaded of a library.
use Rattle.std.proofs.Common.{◌≡◌, ◌≤◌, ◌<◌, ◌+◌, ℕ, length, get_or, take, drop, List, [], ◌∷◌, ◌++◌, refl, ap, sym, ◌∙◌, subst, arith, append_assoc, inl, inr}
use Rattle.std.specs.Prelude.{Option, Some, None, IsSome, IfSome, ok_or, Result, Ok, Err, All, ◌⊎◌}
use Rattle.std.proofs.lemmas.Grind.{common_steps}
use Rattle.std.proofs.lemmas.List.{take-append-drop, drop_more, take_more}
use Rattle.std.proofs.lemmas.List.Elements.{All-nil, All-cons, All-append, filter_map-append}
use Rattle.mse_outside.specs.Count.{next_count}
use Rattle.mse_outside.specs.Outside.{IsLoadEffect, HasRisen, Table}
use Rattle.mse_outside.specs.declared.library.Loaded.TheVariants.{Done as LoadDone}
use Rattle.bmff_boxes.specs.Reading.{◌>>=◌}
use Rattle.call_script.specs.declared.fault.ScriptFault.{ScriptFault}
use Rattle.call_script.specs.declared.script.BlobText.{BlobText}
use Rattle.call_script.specs.declared.script.BlobText.TheVariants.{File, Hex}
use Rattle.call_script.specs.declared.script.Script.{Script as CallScript}
use Rattle.call_script.specs.Script.{read_of}
use Rattle.mse_commands.specs.declared.ending.End.{End}
use Rattle.mse_commands.specs.declared.ending.End.TheVariants.{Memory, Write, Words, NoFile, Read, Script, CallBudget, TaskBudget}
use Rattle.mse_commands.specs.Requests.{blob_bytes, blobs_bytes, blob_file_name, blob_file_names, file_bytes, script_of_file, script_or_fault}
use Rattle.mse_commands.specs.Loads.{IsReached, IsLoadEnd, IsScriptEnd, failures}

-- ---- names

pub reached_first : (files : Table) (name : List ℕ) (more : List (List ℕ)) → IsReached files (name ∷ more) name
reached_first files name more = record { before = []; after = more; names_are = refl; there = All-nil (λ other. IsSome (files other)) }

-- behind one that is there
pub reached_behind : (files : Table) (first name : List ℕ) (names : List (List ℕ)) → IsSome (files first) → IsReached files names name → IsReached files (first ∷ names) name
reached_behind files first name names there p = record {
  before = first ∷ p.before;
  after = p.after;
  names_are = ap (λ (x : List (List ℕ)). first ∷ x) p.names_are;
  there = All-cons (λ other. IsSome (files other)) first p.before there p.there;
}

-- among others, behind some that are there
pub reached_between : (files : Table) (name : List ℕ) (before names after : List (List ℕ)) → All (λ other. IsSome (files other)) before → IsReached files names name
    → IsReached files (before ++ (names ++ after)) name
reached_between files name before names after there p = record {
  before = before ++ p.before;
  after = p.after ++ after;
  names_are =
      ap (λ (x : List (List ℕ)). before ++ (x ++ after)) p.names_are
      ∙ ap (λ (x : List (List ℕ)). before ++ x) (append_assoc p.before (name ∷ p.after) after)
      ∙ sym (append_assoc before p.before (name ∷ (p.after ++ after)));
  there = All-append (λ other. IsSome (files other)) before p.before there p.there;
}

-- before others
pub reached_more : (files : Table) (name : List ℕ) (names after : List (List ℕ)) → IsReached files names name → IsReached files (names ++ after) name
reached_more files name names after p = reached_between files name [] names after (All-nil (λ other. IsSome (files other))) p

-- ---- counts of failures

more_count : (a b : ℕ) → a ≤ b → next_count a ≤ next_count b
more_count a b h = grind (arith, common_steps)

pub rose_within : (a b c d : ℕ) → a ≤ b → c ≤ d → HasRisen b c → HasRisen a d
rose_within a b c d before later rose =
    let more : next_count a ≤ next_count b = more_count a b before in
    omega (arith, more, before, later, rose)

-- ---- ends

told_as : {A B : Type 0} (table : Option Table) (one : Table → Result A End) (two : Table → Result B End) (end : End)
    → ((files : Table) → table ≡ Some files → one files ≡ Err end → two files ≡ Err end)
    → IfSome table (λ files. one files ≡ Err end) → IfSome table (λ files. two files ≡ Err end)
told_as None one two end f p = tt
told_as (Some files) one two end f p = f files refl p

reached_as : (table : Option Table) (names more : List (List ℕ)) (name : List ℕ)
    → ((files : Table) → table ≡ Some files → IsReached files names name → IsReached files more name)
    → IfSome table (λ files. IsReached files names name) → IfSome table (λ files. IsReached files more name)
reached_as None names more name f p = tt
reached_as (Some files) names more name f p = f files refl p

-- the end of a part is the end of the whole
pub end_as : {A B : Type 0} (table : Option Table) (a b c d : ℕ) (names more : List (List ℕ)) (one : Table → Result A End) (two : Table → Result B End) (end : End)
    → a ≤ b → c ≤ d
    → ((files : Table) (name : List ℕ) → table ≡ Some files → IsReached files names name → IsReached files more name)
    → ((files : Table) → table ≡ Some files → one files ≡ Err end → two files ≡ Err end)
    → IsLoadEnd table (failures b c) names one end → IsLoadEnd table (failures a d) more two end
end_as table a b c d names more one two Memory before later reach tells p = tt
end_as table a b c d names more one two (Read name) before later reach tells p =
    (rose_within a b c d before later p.0, reached_as table names more name (λ files. reach files name) p.1)
end_as table a b c d names more one two (NoFile name) before later reach tells p = told_as table one two (NoFile name) tells p
end_as table a b c d names more one two (Script fault) before later reach tells p = absurd p
end_as table a b c d names more one two Write before later reach tells p = absurd p
end_as table a b c d names more one two Words before later reach tells p = absurd p
end_as table a b c d names more one two (CallBudget k) before later reach tells p = absurd p
end_as table a b c d names more one two (TaskBudget limit) before later reach tells p = absurd p

-- ---- a file

found_bytes : (file : Option (List ℕ)) (name new : List ℕ) → IsLoadEffect file [] new LoadDone → ok_or file (NoFile name) ≡ Ok new
found_bytes None name new p = absurd p
found_bytes (Some bytes) name new p = ap (λ (x : List ℕ). Ok x) (sym p)

pub load_done : (table : Option Table) (name new : List ℕ) → IfSome table (λ files. IsLoadEffect (files name) [] new LoadDone) → IfSome table (λ files. file_bytes files name ≡ Ok new)
load_done None name new p = tt
load_done (Some files) name new p = found_bytes (files name) name new p

missing : (file : Option (List ℕ)) (name : List ℕ) → file ≡ None → ◌≡◌ {A = Result (List ℕ) End} (ok_or file (NoFile name)) (Err (NoFile name))
missing file name p = ap (λ (x : Option (List ℕ)). ok_or x (NoFile name)) p

missing_by : (table : Option Table) (name : List ℕ) → IfSome table (λ files. files name ≡ None) → IfSome table (λ files. file_bytes files name ≡ Err (NoFile name))
missing_by None name p = tt
missing_by (Some files) name p = missing (files name) name p

pub load_missing : (table : Option Table) (a b : ℕ) (name : List ℕ) (end : End) → IfSome table (λ files. files name ≡ None) → (end ≡ Memory) ⊎ (end ≡ NoFile name)
    → IsLoadEnd table (failures a b) (name ∷ []) (λ files. file_bytes files name) end
load_missing table a b name end p (inl e) = rw e tt
load_missing table a b name end p (inr e) = rw e (missing_by table name p)

first_by : (table : Option Table) (name : List ℕ) → IfSome table (λ files. IsReached files (name ∷ []) name)
first_by None name = tt
first_by (Some files) name = reached_first files name []

pub load_failed : (table : Option Table) (a b : ℕ) (name : List ℕ) (end : End) → HasRisen a b → (end ≡ Memory) ⊎ (end ≡ Read name)
    → IsLoadEnd table (failures a b) (name ∷ []) (λ files. file_bytes files name) end
load_failed table a b name end rose (inl e) = rw e tt
load_failed table a b name end rose (inr e) = rw e (rose, first_by table name)

-- the bytes of a file are there
pub loaded_there : (files : Table) (name bytes : List ℕ) → file_bytes files name ≡ Ok bytes → IsSome (files name)
loaded_there files name bytes e = is_there (files name) e
  where
    is_there : (file : Option (List ℕ)) → ◌≡◌ {A = Result (List ℕ) End} (ok_or file (NoFile name)) (Ok bytes) → IsSome file
    is_there None q = absurd (cc)
    is_there (Some x) q = refl

-- ---- a script

script_behind : (files : Table) (name bytes : List ℕ) (found : Result CallScript ScriptFault) → file_bytes files name ≡ Ok bytes → read_of bytes ≡ found
    → script_of_file files name ≡ script_or_fault found
script_behind files name bytes found e q = rw (e, q) refl

pub script_done : (table : Option Table) (name bytes : List ℕ) (script : CallScript) → IfSome table (λ files. file_bytes files name ≡ Ok bytes) → read_of bytes ≡ Ok script
    → IfSome table (λ files. script_of_file files name ≡ Ok script)
script_done None name bytes script p q = tt
script_done (Some files) name bytes script p q = script_behind files name bytes (Ok script) p q

script_faulty : (table : Option Table) (name bytes : List ℕ) (fault : ScriptFault) → IfSome table (λ files. file_bytes files name ≡ Ok bytes) → read_of bytes ≡ Err fault
    → IfSome table (λ files. script_of_file files name ≡ Err (Script fault))
script_faulty None name bytes fault p q = tt
script_faulty (Some files) name bytes fault p q = script_behind files name bytes (Err fault) p q

pub script_fault_end : (table : Option Table) (a b : ℕ) (name bytes : List ℕ) (fault : ScriptFault) → IfSome table (λ files. file_bytes files name ≡ Ok bytes) → read_of bytes ≡ Err fault
    → IsScriptEnd table (failures a b) name (Script fault)
script_fault_end table a b name bytes fault p q = ((bytes, q), script_faulty table name bytes fault p q)

script_fails : (files : Table) (name : List ℕ) (end : End) → file_bytes files name ≡ Err end → script_of_file files name ≡ Err end
script_fails files name end e = rw e refl

-- the end of its file is that of the script
pub script_end : (table : Option Table) (a b : ℕ) (name : List ℕ) (end : End) → IsLoadEnd table (failures a b) (name ∷ []) (λ files. file_bytes files name) end → IsScriptEnd table (failures a b) name end
script_end table a b name Memory p = tt
script_end table a b name (Read other) p = p
script_end table a b name (NoFile other) p =
    told_as table (λ files. file_bytes files name) (λ files. script_of_file files name) (NoFile other) (λ files e q. script_fails files name (NoFile other) q) p
script_end table a b name (Script fault) p = absurd p
script_end table a b name Write p = absurd p
script_end table a b name Words p = absurd p
script_end table a b name (CallBudget k) p = absurd p
script_end table a b name (TaskBudget limit) p = absurd p

-- what one thing gave, of which another came
pub then_first : {A B : Type 0} (r : Result A End) (f : A → Result B End) (y : B) → (r >>= f) ≡ Ok y → (x : A) × (r ≡ Ok x) × (f x ≡ Ok y)
then_first (Ok x) f y e = (x, refl, e)
then_first (Err end) f y e = absurd (cc)

-- a script was loaded of a file that is there
pub script_there : (files : Table) (name : List ℕ) (script : CallScript) → script_of_file files name ≡ Ok script → IsSome (files name)
script_there files name script e =
    let first = then_first (file_bytes files name) (λ bytes. script_or_fault (read_of bytes)) script e in
    loaded_there files name first.0 first.1

-- ---- blobs

-- one more blob
pub blobs_more : (files : Table) (xs : List BlobText) (text : BlobText) (bs : List (List ℕ)) (b : List ℕ) → blobs_bytes files xs ≡ Ok bs → blob_bytes files text ≡ Ok b
    → blobs_bytes files (xs ++ text ∷ []) ≡ Ok (bs ++ b ∷ [])
blobs_more files [] text bs b p q =
    let none : bs ≡ [] = cc in
    rw (q, none) refl
blobs_more files (x ∷ xs) text bs b p q =
    let first = then_first (blob_bytes files x) (λ bytes. blobs_bytes files xs >>= (λ others. Ok (bytes ∷ others))) bs p in
    let second = then_first (blobs_bytes files xs) (λ others. Ok (first.0 ∷ others)) bs first.2 in
    let more = blobs_more files xs text second.0 b second.1 q in
    let parts : first.0 ∷ second.0 ≡ bs = cc (second.2) in
    rw (first.1, more) (ap (λ (l : List (List ℕ)). Ok (l ++ b ∷ [])) parts)

-- a blob that was not loaded, behind others
pub blobs_fail : (files : Table) (xs : List BlobText) (text : BlobText) (ys : List BlobText) (bs : List (List ℕ)) (end : End) → blobs_bytes files xs ≡ Ok bs
    → blob_bytes files text ≡ Err end → blobs_bytes files (xs ++ text ∷ ys) ≡ Err end
blobs_fail files [] text ys bs end p q = rw q refl
blobs_fail files (x ∷ xs) text ys bs end p q =
    let first = then_first (blob_bytes files x) (λ bytes. blobs_bytes files xs >>= (λ others. Ok (bytes ∷ others))) bs p in
    let second = then_first (blobs_bytes files xs) (λ others. Ok (first.0 ∷ others)) bs first.2 in
    rw (first.1, blobs_fail files xs text ys second.0 end second.1 q) refl

-- the files of blobs that were loaded are there
blob_there : (files : Table) (text : BlobText) (b : List ℕ) → blob_bytes files text ≡ Ok b → All (λ other. IsSome (files other)) (blob_file_names (text ∷ []))
blob_there files (File name) b e = All-cons (λ other. IsSome (files other)) name [] (loaded_there files name b e) (All-nil (λ other. IsSome (files other)))
blob_there files (Hex bytes) b e = All-nil (λ other. IsSome (files other))

pub blobs_there : (files : Table) (xs : List BlobText) (bs : List (List ℕ)) → blobs_bytes files xs ≡ Ok bs → All (λ other. IsSome (files other)) (blob_file_names xs)
blobs_there files [] bs e = All-nil (λ other. IsSome (files other))
blobs_there files (x ∷ xs) bs e =
    let first = then_first (blob_bytes files x) (λ bytes. blobs_bytes files xs >>= (λ others. Ok (bytes ∷ others))) bs e in
    let second = then_first (blobs_bytes files xs) (λ others. Ok (first.0 ∷ others)) bs first.2 in
    subst (All (λ other. IsSome (files other))) (sym (filter_map-append blob_file_name (x ∷ []) xs))
    (All-append (λ other. IsSome (files other)) (blob_file_names (x ∷ [])) (blob_file_names xs) (blob_there files x first.0 first.1) (blobs_there files xs second.0 second.1))

-- a file is reached behind blobs that were loaded
pub blobs_reached : (files : Table) (xs : List BlobText) (text : BlobText) (ys : List BlobText) (bs : List (List ℕ)) (name : List ℕ) → blobs_bytes files xs ≡ Ok bs
    → IsReached files (blob_file_names (text ∷ [])) name → IsReached files (blob_file_names (xs ++ text ∷ ys)) name
blobs_reached files xs text ys bs name e p =
    let parts : blob_file_names (xs ++ text ∷ ys) ≡ blob_file_names xs ++ (blob_file_names (text ∷ []) ++ blob_file_names ys) =
    filter_map-append blob_file_name xs (text ∷ ys) ∙ ap (λ (l : List (List ℕ)). blob_file_names xs ++ l) (filter_map-append blob_file_name (text ∷ []) ys) in
    subst (λ (l : List (List ℕ)). IsReached files l name) (sym parts)
    (reached_between files name (blob_file_names xs) (blob_file_names (text ∷ [])) (blob_file_names ys) (blobs_there files xs bs e) p)

-- what is told of a table
told_at : (P : Table → Type 0) (table : Option Table) (files : Table) → IfSome table P → table ≡ Some files → P files
told_at P None files p e = absurd (cc)
told_at P (Some f) files p e = let same : f ≡ files = cc in subst P same p

-- the text at a place, and those round it
pub parts_at : (texts : List BlobText) (i : ℕ) (text : BlobText) → i < length texts → text ≡ get_or texts i text → texts ≡ take i texts ++ text ∷ drop (i + 1) texts
parts_at texts i text h is =
    subst (λ (x : BlobText). texts ≡ take i texts ++ x ∷ drop (i + 1) texts) (sym is)
    (sym (take-append-drop i texts) ∙ ap (λ (x : List BlobText). take i texts ++ x) (drop_more texts i text h))

pub more_at : (texts : List BlobText) (i : ℕ) (text : BlobText) → i < length texts → text ≡ get_or texts i text → take (i + 1) texts ≡ take i texts ++ text ∷ []
more_at texts i text h is = subst (λ (x : BlobText). take (i + 1) texts ≡ take i texts ++ x ∷ []) (sym is) (take_more texts i text h)

-- one more blob was loaded of a library that tells its files
pub blobs_step : (before table : Option Table) (xs ys : List BlobText) (text : BlobText) (bs new : List (List ℕ)) (b : List ℕ) → table ≡ before → ys ≡ xs ++ text ∷ [] → new ≡ bs ++ b ∷ []
    → IfSome before (λ files. blobs_bytes files xs ≡ Ok bs) → IfSome table (λ files. blob_bytes files text ≡ Ok b) → IfSome before (λ files. blobs_bytes files ys ≡ Ok new)
blobs_step None table xs ys text bs new b same more grew p q = tt
blobs_step (Some files) table xs ys text bs new b same more grew p q =
    rw (more, grew) (blobs_more files xs text bs b p (told_at (λ files. blob_bytes files text ≡ Ok b) table files q same))

-- one was not
pub blobs_end : (before table : Option Table) (a b c : ℕ) (texts xs : List BlobText) (text : BlobText) (ys : List BlobText) (bs : List (List ℕ)) (end : End) → table ≡ before → a ≤ b
    → texts ≡ xs ++ text ∷ ys → IfSome before (λ files. blobs_bytes files xs ≡ Ok bs) → IsLoadEnd table (failures b c) (blob_file_names (text ∷ [])) (λ files. blob_bytes files text) end
    → IsLoadEnd before (failures a c) (blob_file_names texts) (λ files. blobs_bytes files texts) end
blobs_end before table a b c texts xs text ys bs end same later parts made p =
    rw parts (end_as before a b c c (blob_file_names (text ∷ [])) (blob_file_names (xs ++ text ∷ ys)) (λ files. blob_bytes files text) (λ files. blobs_bytes files (xs ++ text ∷ ys)) end
    later (omega arith)
    (λ files name e. blobs_reached files xs text ys bs name (told_at (λ files. blobs_bytes files xs ≡ Ok bs) before files made e))
    (λ files e. blobs_fail files xs text ys bs end (told_at (λ files. blobs_bytes files xs ≡ Ok bs) before files made e))
    (subst (λ (t : Option Table). IsLoadEnd t (failures b c) (blob_file_names (text ∷ [])) (λ files. blob_bytes files text) end) same p))
