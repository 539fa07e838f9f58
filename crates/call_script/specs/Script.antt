-- What a script means: the script, or its first fault.
use Rattle.std.specs.Prelude.{◌≡◌, ℕ, ◌^◌, nat_le, List, Option, Some, None, Result, Ok, Err, ok_or, option_and_then, if◌then◌else◌, ⊤}
use Rattle.std.specs.Str.{is_utf8}
use Rattle.toml.specs.Data.{Items, Members, get_member, as_str}
use Rattle.toml.specs.Parse.{parse_document}
use Rattle.call_script.specs.declared.key.ScriptKey.{ScriptKey}
use Rattle.call_script.specs.declared.key.ScriptKey.TheVariants as key
use Rattle.call_script.specs.declared.fault.ScriptFault.{ScriptFault}
use Rattle.call_script.specs.declared.fault.ScriptFault.TheVariants.{NotToml, Key, TooMany, Blob, Step, Rule}
use Rattle.call_script.specs.declared.fault.ScriptError.{ScriptError}
use Rattle.call_script.specs.declared.fault.ScriptError.TheVariants.{OutOfMemory, Fault}
use Rattle.call_script.specs.declared.script.BlobText.{BlobText}
use Rattle.call_script.specs.declared.script.StepLine.{StepLine}
use Rattle.call_script.specs.declared.script.Script.{Script}
use Rattle.mse_calls.specs.declared.rules.Rule as of_rules
use Rattle.call_script.specs.Keys.{key_name, unknown_key, number_or, items_or_none, count_of}
use Rattle.call_script.specs.Members.{members_of}
use Rattle.call_script.specs.Blobs.{blob_of}
use Rattle.call_script.specs.Lines.{step_of_line}
use Rattle.call_script.specs.Rules.{rule_of}

-- one thing after the other, up to the first fault
infixl 10 ◌>>=◌
abbrev pub ◌>>=◌ : {A B : Type 0} → Result A ScriptFault → (A → Result B ScriptFault)
    → Result B ScriptFault
Ok x >>= f = f x
Err fault >>= f = Err fault

-- the answer is what is told, but for want of memory
abbrev pub IsAnswer : {A : Type 0} → Result A ScriptError → Result A ScriptFault → Type 0
IsAnswer (Ok x) told = told ≡ Ok x
IsAnswer (Err OutOfMemory) told = ⊤
IsAnswer (Err (Fault fault)) told = told ≡ Err fault

-- the error tells of this fault, or of want of memory
abbrev pub IsError : ScriptError → ScriptFault → Type 0
IsError OutOfMemory fault = ⊤
IsError (Fault found) fault = found ≡ fault

-- the answer with its value as a definition sees it
abbrev pub answer_by : {A B : Type 0} → (A → B) → Result A ScriptError → Result B ScriptError
answer_by view (Ok x) = Ok (view x)
answer_by view (Err error) = Err error

-- no key that a script does not have
abbrev pub key_check : Option (List ℕ) → Result (Unit {0}) ScriptFault
key_check None = Ok tt
key_check (Some name) = Err (Key name)

unfoldable pub keys_check : Members → Result (Unit {0}) ScriptFault
keys_check members = key_check (unknown_key members)

-- the number at a key from `least` to `most`, or the default
unfoldable pub number_at : ScriptKey → ℕ → ℕ → ℕ → Members → Result ℕ ScriptFault
number_at key default least most members =
    ok_or (number_or default least most (get_member (key_name key) members)) (Key (key_name key))

-- the list at a key
unfoldable pub list_at : ScriptKey → Members → Result Items ScriptFault
list_at key members = ok_or (items_or_none (get_member (key_name key) members)) (Key (key_name key))

-- at most so many members
unfoldable pub at_most : ℕ → ScriptKey → Items → Result (Unit {0}) ScriptFault
at_most most key items = if nat_le (count_of items) most then Ok tt else Err (TooMany key)

-- the fault that has the number of a bad member
abbrev pub with_fault_number : {A : Type 0} → (ℕ → ScriptFault) → Result A ℕ → Result A ScriptFault
with_fault_number fault (Ok x) = Ok x
with_fault_number fault (Err n) = Err (fault n)

unfoldable pub blobs_of : Items → Result (List BlobText) ScriptFault
blobs_of items =
    with_fault_number (λ n. Blob n)
    (members_of (λ value. option_and_then blob_of (as_str value)) items)

unfoldable pub steps_of : Items → Result (List StepLine) ScriptFault
steps_of items =
    with_fault_number (λ n. Step n)
    (members_of (λ value. option_and_then step_of_line (as_str value)) items)

unfoldable pub rules_of : Items → Result (List of_rules.Rule) ScriptFault
rules_of items = with_fault_number (λ n. Rule n) (members_of rule_of items)

-- the script of a table, with the faults in their order
unfoldable pub script_of : Members → Result Script ScriptFault
script_of members = do
  known ← keys_check members
  quota ← number_at key.Quota 134217728 1 (2 ^ 40) members
  drain ← number_at key.Drain 100000 1 1000000 members
  gap ← number_at key.Gap 0 0 (2 ^ 40) members
  blobs ← list_at key.Blobs members
  steps ← list_at key.Steps members
  rules ← list_at key.Rules members
  blobs_fit ← at_most 1000 key.Blobs blobs
  steps_fit ← at_most 100000 key.Steps steps
  rules_fit ← at_most 1000 key.Rules rules
  blob_texts ← blobs_of blobs
  step_lines ← steps_of steps
  listener_rules ← rules_of rules
  Ok
      (record {
        quota = quota;
        drain = drain;
        gap = gap;
        blobs = blob_texts;
        steps = step_lines;
        rules = listener_rules;
      })

abbrev pub document_of : Option Members → Result Script ScriptFault
document_of None = Err NotToml
document_of (Some members) = script_of members

-- what the bytes of a script mean: TOML in UTF-8
abbrev pub read_of : List ℕ → Result Script ScriptFault
read_of bytes = if is_utf8 bytes then document_of (parse_document bytes) else Err NotToml
