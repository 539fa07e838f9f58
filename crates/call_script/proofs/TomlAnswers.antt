-- What the bytes of a script mean, by what toml answered.
use Rattle.std.proofs.Common.{◌≡◌, ◌∙◌, ℕ, refl, ap}
use Rattle.std.specs.Prelude.{Bool, true, false, if◌then◌else◌, List, Some, None, Result, Ok, Err, IfOk, IsErrOf}
use Rattle.std.specs.Str.{IsUtf8, is_utf8}
use Rattle.std.proofs.lemmas.Str.{IsUtf8-from_is_utf8, is_utf8-from_IsUtf8}
use Rattle.toml.specs.Data.{Members}
use Rattle.toml.specs.Parse.{parse_document}
use Rattle.call_script.specs.declared.fault.ScriptFault.{ScriptFault}
use Rattle.call_script.specs.declared.fault.ScriptFault.TheVariants.{NotToml}
use Rattle.call_script.specs.declared.fault.ScriptError.{ScriptError}
use Rattle.call_script.specs.declared.fault.ScriptError.TheVariants.{OutOfMemory, Fault}
use Rattle.call_script.specs.declared.script.Script.{Script}
use Rattle.call_script.specs.Script.{IsAnswer, document_of, script_of, read_of}

pub read_ok : (bytes : List ℕ) (found : Members) → IsUtf8 bytes → parse_document bytes ≡ Some found → read_of bytes ≡ script_of found
read_ok bytes found utf8 is = rw (is_utf8-from_IsUtf8 bytes utf8, is) refl

read_by : (bytes : List ℕ) (b : Bool) → (b ≡ true → parse_document bytes ≡ None) → (if b then document_of (parse_document bytes) else Err NotToml) ≡ Err NotToml
read_by bytes true refused = rw (refused refl) refl
read_by bytes false refused = refl

pub read_refused : (bytes : List ℕ) → (IsUtf8 bytes → parse_document bytes ≡ None) → read_of bytes ≡ Err NotToml
read_refused bytes refused = read_by bytes (is_utf8 bytes) (λ e. refused (IsUtf8-from_is_utf8 bytes e))

-- an answer by its two cases
pub answer_ok : (answer : Result Script ScriptError) (told : Result Script ScriptFault) {whole : Result Script ScriptFault} → whole ≡ told → IsAnswer answer told → IfOk answer (λ script. whole ≡ Ok script)
answer_ok (Ok script) told e h = e ∙ h
answer_ok (Err error) told e h = tt

pub answer_fault : (answer : Result Script ScriptError) (told : Result Script ScriptFault) {whole : Result Script ScriptFault} → whole ≡ told → IsAnswer answer told
    → (fault : ScriptFault) → IsErrOf answer (Fault fault) → whole ≡ Err fault
answer_fault (Ok script) told e h fault is = cc
answer_fault (Err OutOfMemory) told e h fault is = cc
answer_fault (Err (Fault found)) told e h fault is = let same : found ≡ fault = cc in e ∙ h ∙ ap (λ (f : ScriptFault). Err f) same
