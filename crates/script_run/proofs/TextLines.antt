-- The lines of a text.
use Rattle.std.proofs.Common.{◌≡◌, ◌≢◌, ◌∙◌, ◌<◌, ◌+◌, ◌==◌, ℕ, suc, Bool, true, false, List, [], ◌∷◌, ◌++◌, length, get_or, take, drop, ap, refl, sym, append_assoc, arith, length-append, length-take}
use Rattle.std.specs.Prelude.{if◌then◌else◌, MatchOption, Option, Some, None}
use Rattle.std.specs.List.{concat}
use Rattle.std.specs.Str.Pattern.{EndsAtFirstMatch, FindsChar}
use Rattle.std.proofs.Math.Seq.{drop-append_seam}
use Rattle.std.proofs.lemmas.Bool.{ne_eqb}
use Rattle.std.proofs.lemmas.List.{take-append-drop, take_at}
use Rattle.std.proofs.lemmas.Str.{len_utf8_ascii}
use Rattle.std.proofs.lemmas.Str.Pattern.{NoCharPasses-char, drop_at_char}
use Rattle.script_run.specs.Text.{lines_in, onto_first_line}

-- ---- one behind another they are the text

concat-onto : (c : ℕ) (lines : List (List ℕ)) → concat (onto_first_line c lines) ≡ c ∷ concat lines
concat-onto c [] = refl
concat-onto c (line ∷ lines) = refl

pub concat-lines : (text : List ℕ) → concat (lines_in text) ≡ text
concat-lines [] = refl
concat-lines (c ∷ text) = by_test (c == 10) (concat-lines text)
  where
    by_test : (test : Bool) → concat (lines_in text) ≡ text → concat (if test then (c ∷ []) ∷ lines_in text else onto_first_line c (lines_in text)) ≡ c ∷ text
    by_test true e = ap (λ (x : List ℕ). c ∷ x) e
    by_test false e = concat-onto c (lines_in text) ∙ ap (λ (x : List ℕ). c ∷ x) e

-- ---- the first line, and the others

-- no byte is a line feed
abbrev IsInLine : List ℕ → Type 0
IsInLine text = (i : ℕ) → i < length text → get_or text i 0 ≢ 10

behind_first : (c : ℕ) (text : List ℕ) → IsInLine (c ∷ text) → IsInLine text
behind_first c text h = λ i low. h (suc i) (omega (arith, low))

first_other : (c : ℕ) (text : List ℕ) → IsInLine (c ∷ text) → (c == 10) ≡ false
first_other c text h = ne_eqb c 10 (h 0 (omega arith))

goes_on : (c : ℕ) (text : List ℕ) → (c == 10) ≡ false → lines_in (c ∷ text) ≡ onto_first_line c (lines_in text)
goes_on c text e = ap (λ (test : Bool). if test then (c ∷ []) ∷ lines_in text else onto_first_line c (lines_in text)) e

-- up to the first line feed
line_first : (front rest : List ℕ) → IsInLine front → lines_in (front ++ 10 ∷ rest) ≡ (front ++ 10 ∷ []) ∷ lines_in rest
line_first [] rest h = refl
line_first (c ∷ front) rest h =
    goes_on c (front ++ 10 ∷ rest) (first_other c front h) ∙ ap (onto_first_line c) (line_first front rest (behind_first c front h))

-- or to the end
line_last : (c : ℕ) (text : List ℕ) → IsInLine (c ∷ text) → lines_in (c ∷ text) ≡ (c ∷ text) ∷ []
line_last c [] h = goes_on c [] (first_other c [] h)
line_last c (d ∷ text) h = goes_on c (d ∷ text) (first_other c (d ∷ text) h) ∙ ap (onto_first_line c) (line_last d text (behind_first c (d ∷ text) h))

last_whole : (text : List ℕ) → 0 < length text → IsInLine text → lines_in text ≡ text ∷ []
last_whole [] some h = absurd (omega (arith, some))
last_whole (c ∷ text) some h = line_last c text h

none_behind : (line rest : List ℕ) → line ≡ line ++ rest → rest ≡ []
none_behind line [] e = refl
none_behind line (c ∷ rest) e = absurd (omega (arith, ap length e, length-append line (c ∷ rest)))

by_match : (text line rest : List ℕ) → text ≡ line ++ rest → (found : Option (ℕ × ℕ)) → FindsChar 10 text found
    → MatchOption found ((line ≡ text) × (0 < length text)) (λ place. 0 < place.1 → line ≡ take place.1 text) → lines_in text ≡ line ∷ lines_in rest
by_match text line rest parts None none whole =
    let no_more : rest ≡ [] = none_behind line rest (whole.0 ∙ parts) in
    last_whole text whole.1 (λ i low. NoCharPasses-char 10 text i none (omega arith) low) ∙ ap (λ (x : List ℕ). x ∷ []) (sym whole.0) ∙ ap (λ (x : List ℕ). line ∷ lines_in x) (sym no_more)
by_match text line rest parts (Some place) found upto =
    let front : List ℕ = take place.0 text in
    let behind : List ℕ = drop place.1 text in
    let ends : place.1 ≡ place.0 + 1 = omega (arith, found.1.ends, len_utf8_ascii 10 (omega arith)) in
    let feed : drop place.0 text ≡ 10 ∷ behind = drop_at_char 10 text place.0 place.1 found.1 (omega arith) in
    let split : text ≡ front ++ 10 ∷ behind = sym (take-append-drop place.0 text) ∙ ap (λ (x : List ℕ). front ++ x) feed in
    let split_line : text ≡ (front ++ 10 ∷ []) ++ behind = split ∙ sym (append_assoc front (10 ∷ []) behind) in
    let long : length text ≡ length front + length (10 ∷ behind) = ap length split ∙ length-append front (10 ∷ behind) in
    let size : length (front ++ 10 ∷ []) ≡ place.1 = omega (arith, ends, length-append front (10 ∷ []), length-take place.0 text, long) in
    let first : line ≡ front ++ 10 ∷ [] = upto (omega (arith, ends)) ∙ ap (take place.1) split_line ∙ take_at (front ++ 10 ∷ []) behind place.1 size in
    let same : rest ≡ behind = sym (drop-append_seam line rest) ∙ ap (drop (length line)) (sym parts ∙ split_line ∙ ap (λ (x : List ℕ). x ++ behind) (sym first)) ∙ drop-append_seam line behind in
    let in_line : IsInLine front = λ i low. NoCharPasses-char 10 front i found.0 (omega arith) low in
    ap lines_in split ∙ line_first front behind in_line ∙ ap (λ (x : List ℕ). x ∷ lines_in behind) (sym first) ∙ ap (λ (x : List ℕ). line ∷ lines_in x) (sym same)

-- a line that was cut off up to the first line feed is the first one
pub first_line : (text line rest : List ℕ) → text ≡ line ++ rest → EndsAtFirstMatch (FindsChar 10) text line → lines_in text ≡ line ∷ lines_in rest
first_line text line rest parts m = by_match text line rest parts m.0 m.1 m.2
