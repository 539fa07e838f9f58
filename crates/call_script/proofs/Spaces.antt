-- Words that have no mark in them, and lines that are put together of them.
use Rattle.std.proofs.Common.{◌≡◌, ◌∙◌, ℕ, suc, ◌+◌, List, [], ◌∷◌, ◌++◌, take, Bool, true, false, refl, ap, arith}
use Rattle.std.specs.Prelude.{◌==◌, ◌&&◌, ◌||◌, Option, Some, None, option_and_then}
use Rattle.std.specs.List.{list_any, list_all, position_or_len}
use Rattle.mse_calls.specs.declared.calls.Call.{Call}
use Rattle.event_text.specs.Words.{is_printable}
use Rattle.call_script.specs.declared.call_word.CallWord.{CallWord}
use Rattle.call_script.specs.Words.{text_before, rest_after, first_word, after_word}
use Rattle.call_script.specs.CallWords.{call_word_of}
use Rattle.call_script.specs.Lines.{pair_of, pair, call_with, call_of_line}

-- the mark is not in the text
pub record IsAbsentFrom (mark : ℕ) (text : List ℕ) : Type 0 where
  pub none : list_any (λ b. b == mark) text ≡ false

-- all bytes print
pub record IsPrintableText (text : List ℕ) : Type 0 where
  pub all : list_all is_printable text ≡ true

lacks_head : (x y : Bool) → (x || y) ≡ false → (x ≡ false) × (y ≡ false)
lacks_head true y e = cc
lacks_head false y e = (refl, e)

pub lacks_rest : (mark b : ℕ) (bs : List ℕ) → IsAbsentFrom mark (b ∷ bs) → ((b == mark) ≡ false) × IsAbsentFrom mark bs
lacks_rest mark b bs h = let parts = lacks_head (b == mark) (list_any (λ c. c == mark) bs) h.none in (parts.0, record { none = parts.1 })

pub before-mark : (mark : ℕ) (word rest : List ℕ) → IsAbsentFrom mark word → (mark == mark) ≡ true → text_before mark (word ++ (mark ∷ rest)) ≡ word
before-mark mark [] rest h same = rw same refl
before-mark mark (b ∷ bs) rest h same =
    let parts = lacks_rest mark b bs h in
    let more : 1 + position_or_len (λ c. c == mark) (bs ++ (mark ∷ rest)) ≡ suc (position_or_len (λ c. c == mark) (bs ++ (mark ∷ rest))) = omega arith in
    rw parts.0 (ap (λ (n : ℕ). take n (b ∷ (bs ++ (mark ∷ rest)))) more ∙ ap (λ (w : List ℕ). b ∷ w) (before-mark mark bs rest parts.1 same))

pub rest_after-mark : (mark : ℕ) (word rest : List ℕ) → IsAbsentFrom mark word → (mark == mark) ≡ true → rest_after mark (word ++ (mark ∷ rest)) ≡ Some rest
rest_after-mark mark [] rest h same = rw same refl
rest_after-mark mark (b ∷ bs) rest h same = let parts = lacks_rest mark b bs h in rw parts.0 (rest_after-mark mark bs rest parts.1 same)

pub before-alone : (mark : ℕ) (word : List ℕ) → IsAbsentFrom mark word → text_before mark word ≡ word
before-alone mark [] h = refl
before-alone mark (b ∷ bs) h =
    let parts = lacks_rest mark b bs h in
    let more : 1 + position_or_len (λ c. c == mark) bs ≡ suc (position_or_len (λ c. c == mark) bs) = omega arith in
    rw parts.0 (ap (λ (n : ℕ). take n (b ∷ bs)) more ∙ ap (λ (w : List ℕ). b ∷ w) (before-alone mark bs parts.1))

pub rest_after-alone : (mark : ℕ) (word : List ℕ) → IsAbsentFrom mark word → rest_after mark word ≡ None
rest_after-alone mark [] h = refl
rest_after-alone mark (b ∷ bs) h = let parts = lacks_rest mark b bs h in rw parts.0 (rest_after-alone mark bs parts.1)

-- put together
all_and : (x y : Bool) → x ≡ true → y ≡ true → (x && y) ≡ true
all_and true true e f = refl
all_and true false e f = cc
all_and false y e f = cc

and_parts : (x y : Bool) → (x && y) ≡ true → (x ≡ true) × (y ≡ true)
and_parts true y e = (refl, e)
and_parts false y e = cc

pub prints_join : (text rest : List ℕ) → IsPrintableText text → IsPrintableText rest → IsPrintableText (text ++ rest)
prints_join [] rest h k = k
prints_join (b ∷ bs) rest h k =
    let parts = and_parts (is_printable b) (list_all is_printable bs) h.all in
    record { all = all_and (is_printable b) (list_all is_printable (bs ++ rest)) parts.0 (prints_join bs rest (record { all = parts.1 }) k).all }

pub prints_words : (text rest : List ℕ) → IsPrintableText text → IsPrintableText rest → IsPrintableText (text ++ (32 ∷ rest))
prints_words text rest h k = prints_join text (32 ∷ rest) h (record { all = k.all })

pub both-is : {A B : Type 0} (a : Option A) (b : Option B) (x : A) (y : B) → a ≡ Some x → b ≡ Some y → pair_of a b ≡ Some (x, y)
both-is a b x y e f = rw (e, f) refl

pub pair-is : {A B : Type 0} (first : List ℕ → Option A) (second : List ℕ → Option B) (a b : List ℕ) (x : A) (y : B)
    → IsAbsentFrom 32 a → first a ≡ Some x → second b ≡ Some y → pair first second (a ++ (32 ∷ b)) ≡ Some (x, y)
pair-is first second a b x y h e f =
    both-is (first (first_word (a ++ (32 ∷ b)))) (option_and_then second (after_word (a ++ (32 ∷ b)))) x y
    (ap first (before-mark 32 a b h refl) ∙ e)
    (ap (option_and_then second) (rest_after-mark 32 a b h refl) ∙ f)

pub line-alone : (text : List ℕ) (word : CallWord) (call : Call) → IsAbsentFrom 32 text → IsPrintableText text → call_word_of text ≡ Some word → call_with word None ≡ Some call → call_of_line text ≡ Some call
unfolding call_of_line
line-alone text word call h p w e =
    rw p.all (ap (λ (t : List ℕ). option_and_then (λ w'. call_with w' (after_word text)) (call_word_of t)) (before-alone 32 text h)
    ∙ ap (option_and_then (λ w'. call_with w' (after_word text))) w ∙ ap (call_with word) (rest_after-alone 32 text h) ∙ e)

pub line-with : (text rest : List ℕ) (word : CallWord) (call : Call) → IsAbsentFrom 32 text → IsPrintableText text → IsPrintableText rest → call_word_of text ≡ Some word → call_with word (Some rest) ≡ Some call
    → call_of_line (text ++ (32 ∷ rest)) ≡ Some call
unfolding call_of_line
line-with text rest word call h p q w e =
    let whole : list_all is_printable (text ++ (32 ∷ rest)) ≡ true = (prints_words text rest p q).all in
    rw whole (ap (λ (t : List ℕ). option_and_then (λ w'. call_with w' (after_word (text ++ (32 ∷ rest)))) (call_word_of t)) (before-mark 32 text rest h refl)
    ∙ ap (option_and_then (λ w'. call_with w' (after_word (text ++ (32 ∷ rest))))) w ∙ ap (call_with word) (rest_after-mark 32 text rest h refl) ∙ e)
