-- The words of a call.
use Rattle.std.proofs.Common.{◌≡◌, ◌<◌, ◌+◌, ℕ, List, [], ◌∷◌, ◌++◌, Bool, true, false, refl, map, take, length, get_or, String, Global, string_bytes}
use Rattle.std.specs.List.{list_all}
use Rattle.std.specs.Str.{IsUtf8, is_utf8}
use Rattle.std.proofs.lemmas.List.{map-append, take_more}
use Rattle.std.proofs.lemmas.List.Folds.{list_all-append, list_all_at}
use Rattle.std.proofs.lemmas.Str.{IsUtf8-from_is_utf8, is_utf8-from_IsUtf8}
use Rattle.mseplay_c.specs.declared.ByteSlice.{ByteSlice}
use Rattle.mseplay_c.specs.Given.{words_in}

is_false : (b : Bool) → (b ≡ true → ⊥) → b ≡ false
is_false true not = absurd (not refl)
is_false false not = refl

-- where one is no text, there are no words
pub no_text : (given : List ByteSlice) (i : ℕ) (d : ByteSlice) → i < length given → (IsUtf8 (get_or given i d).bytes.now → ⊥) → words_in given ≡ []
no_text given i d inside not =
    let no : is_utf8 (get_or given i d).bytes.now ≡ false = is_false (is_utf8 (get_or given i d).bytes.now) (λ e. not (IsUtf8-from_is_utf8 (get_or given i d).bytes.now e)) in
    let none : list_all (λ (word : ByteSlice). is_utf8 word.bytes.now) given ≡ false = list_all_at (λ (word : ByteSlice). is_utf8 word.bytes.now) given i d inside no in
    rw none refl

-- one more word
pub words_more : (given : List ByteSlice) (i : ℕ) (d : ByteSlice) (words new : List (String Global)) (word : String Global) → i < length given → new ≡ words ++ word ∷ []
    → string_bytes word ≡ (get_or given i d).bytes.now → map string_bytes words ≡ map (λ (x : ByteSlice). x.bytes.now) (take i given)
    → map string_bytes new ≡ map (λ (x : ByteSlice). x.bytes.now) (take (i + 1) given)
words_more given i d words new word inside grew is so_far =
    rw (grew, take_more given i d inside, map-append string_bytes words (word ∷ []), map-append (λ (x : ByteSlice). x.bytes.now) (take i given) (get_or given i d ∷ []), is, so_far) refl

pub texts_more : (given : List ByteSlice) (i : ℕ) (d : ByteSlice) → i < length given → IsUtf8 (get_or given i d).bytes.now
    → list_all (λ (word : ByteSlice). is_utf8 word.bytes.now) (take i given) ≡ true → list_all (λ (word : ByteSlice). is_utf8 word.bytes.now) (take (i + 1) given) ≡ true
texts_more given i d inside text so_far =
    rw (take_more given i d inside, list_all-append (λ (word : ByteSlice). is_utf8 word.bytes.now) (take i given) (get_or given i d ∷ []), so_far, is_utf8-from_IsUtf8 (get_or given i d).bytes.now text) refl
