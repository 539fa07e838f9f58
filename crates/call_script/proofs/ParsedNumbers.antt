-- Numbers that std's `parse` reads.
use Rattle.std.proofs.Common.{◌≡◌, ◌∙◌, ℕ, ◌<◌, ◌≤◌, ◌^◌, Bool, true, false, List, [], ◌∷◌, length, Option, Some, None, Result, Ok, Err, ℤ, pos, refl, sym, ap, subst, lit<, arith}
use Rattle.std.specs.Prelude.{if◌then◌else◌, nat_lt, nat_le, slice_index, ◌&&◌, ◌||◌, codes, bytes_eq, option_map, unsigned_abs, IfSome}
use Rattle.std.specs.Result.{OkIff, result_ok}
use Rattle.std.specs.Char.{is_ascii_digit}
use Rattle.std.specs.List.{list_all}
use Rattle.std.specs.Str.{all_ascii_digits}
use Rattle.std.specs.Str.Parse.{digits_value, ParsesUnsigned, ParsesSigned}
use Rattle.std.proofs.lemmas.Bool.Decides.{Decides-ltb}
use Rattle.std.proofs.lemmas.Slice.Eq.{bytes_eq-Decides}
use Rattle.std.proofs.lemmas.Str.Parse.{IsNumeralModel, numerals_by_value, tells_all_ascii_digits, parse_digits, parse_signed_digits, digits_value_short}
use mir.Syntax.{w128}
use Rattle.call_script.specs.Numbers.{is_number, number_of, number_if_below, number_below, index_of, size_of}
use Rattle.call_script.specs.Times.{amount_of}

-- all decimal digits, by std's test
pub own : IsNumeralModel (λ ds. all_ascii_digits ds ≡ true) (digits_value 10)
own = numerals_by_value _ tells_all_ascii_digits

-- a number has a digit, and digits alone
digits_by : (text : List ℕ) (zero_text first digits : Bool) → bytes_eq text (codes "0") ≡ zero_text → nat_lt 48 (slice_index text 0) ≡ first → all_ascii_digits text ≡ digits
    → (zero_text || (first && digits)) ≡ true → (all_ascii_digits text ≡ true) × (0 < length text)
digits_by text true first digits e f d h =
    let is : text ≡ codes "0" = (bytes_eq-Decides text (codes "0")).0 e in
    subst (λ (t : List ℕ). (all_ascii_digits t ≡ true) × (0 < length t)) (sym is) (refl, lit< tt)
digits_by [] false true digits e f d h = cc
digits_by (b ∷ bs) false true true e f d h = (d, omega arith)
digits_by text false true false e f d h = cc
digits_by text false false digits e f d h = cc

pub number_digits : (text : List ℕ) → is_number text ≡ true → (all_ascii_digits text ≡ true) × (0 < length text)
number_digits text h = digits_by text _ _ _ refl refl refl h

pub below-yes : (limit n : ℕ) → n < limit → number_if_below limit n ≡ Some n
below-yes limit n h = ap (λ (t : Bool). if t then Some n else None) ((Decides-ltb n limit).1 h)

pub below-no : (limit n : ℕ) → ¬ (n < limit) → number_if_below limit n ≡ None
below-no limit n h = by (nat_lt n limit) refl
  where
    by : (t : Bool) → nat_lt n limit ≡ t → (if t then Some n else None) ≡ None
    by true e = absurd (h ((Decides-ltb n limit).0 e))
    by false e = refl

-- the type of a text that is a number
pub number_below-is : (limit : ℕ) (text : List ℕ) → is_number text ≡ true → number_below limit text ≡ number_if_below limit (digits_value 10 text)
number_below-is limit text h = rw h refl

parsed_by : {E : Type 0} (limit v len : ℕ) (r : Result ℕ E) → 0 < len → OkIff r ((0 < len) × (v < limit)) v → result_ok r ≡ number_if_below limit v
parsed_by limit v len (Ok x) some h = ap (λ (n : ℕ). Some n) h.1 ∙ sym (below-yes limit v h.0.1)
parsed_by limit v len (Err e) some h = sym (below-no limit v (λ less. h (some, less)))

pub parse-below : {E : Type 0} (k : ℕ) (text : List ℕ) (r : Result ℕ E) → ParsesUnsigned k 10 text r → is_number text ≡ true → result_ok r ≡ number_below (2 ^ k) text
parse-below k text r h number =
    let d = number_digits text number in
    parsed_by (2 ^ k) (digits_value 10 text) (length text) r d.1 (parse_digits own k text r h d.0) ∙ sym (number_below-is (2 ^ k) text number)

pub parse-index : {E : Type 0} (text : List ℕ) (r : Result ℕ E) → ParsesUnsigned 32 10 text r → is_number text ≡ true → result_ok r ≡ index_of text
unfolding index_of
parse-index text r h number = parse-below 32 text r h number

pub index-none : (text : List ℕ) → is_number text ≡ false → None ≡ index_of text
unfolding index_of
index-none text h = rw h refl

pub size-none : (text : List ℕ) → is_number text ≡ false → None ≡ size_of text
unfolding size_of
size-none text h = rw h refl

-- a number below 2 ^ 64 that is below 2 ^ 63, or is not
pub parse-size : {E : Type 0} (text : List ℕ) (r : Result ℕ E) (n : ℕ) → ParsesUnsigned 64 10 text r → is_number text ≡ true → r ≡ Ok n → number_if_below (2 ^ 63) n ≡ size_of text
unfolding size_of
parse-size {E} text r n h number e =
    let d = number_digits text number in
    let ok = subst (λ (x : Result ℕ E). OkIff x ((0 < length text) × (digits_value 10 text < 2 ^ 64)) (digits_value 10 text)) e (parse_digits own 64 text r h d.0) in
    ap (number_if_below (2 ^ 63)) ok.1 ∙ sym (number_below-is (2 ^ 63) text number)

pub parse-size-none : {E : Type 0} (text : List ℕ) (r : Result ℕ E) (err : E) → ParsesUnsigned 64 10 text r → is_number text ≡ true → r ≡ Err err → None ≡ size_of text
unfolding size_of
parse-size-none {E} text r err h number e =
    let d = number_digits text number in
    let never = subst (λ (x : Result ℕ E). OkIff x ((0 < length text) × (digits_value 10 text < 2 ^ 64)) (digits_value 10 text)) e (parse_digits own 64 text r h d.0) in
    sym (number_below-is (2 ^ 63) text number ∙ below-no (2 ^ 63) (digits_value 10 text) (λ less. never (d.1, omega (arith, less))))

-- a number of at most 24 digits, which 128 bits hold
pub amount-is : (text : List ℕ) → is_number text ≡ true → length text ≤ 24 → (amount_of text ≡ Some (digits_value 10 text)) × (digits_value 10 text < 10 ^ 24)
unfolding amount_of
amount-is text number short =
    let d = number_digits text number in
    (by (nat_le (length text) 24) (le_true (length text) 24 short), digits_value_short own text 24 d.0 short)
  where
    le_true : (a b : ℕ) → a ≤ b → nat_le a b ≡ true
    le_true a b h = grind arith

    by : (t : Bool) → t ≡ true → (if t then (if is_number text then Some (digits_value 10 text) else None) else None) ≡ Some (digits_value 10 text)
    by true e = rw number refl
    by false e = cc

amount_by : {E : Type 0} (v len : ℕ) (r : Result ℤ E) → 0 < len → v < 10 ^ 24 → OkIff r ((0 < len) × (v < 2 ^ 127)) (pos v) → result_ok r ≡ Some (pos v)
amount_by v len (Ok x) some small h = ap (λ (z : ℤ). Some z) h.1
amount_by v len (Err e) some small h = absurd (h (some, omega (arith, small)))

pub parse-amount : {E : Type 0} (text : List ℕ) (r : Result ℤ E) → ParsesSigned w128 10 text r → is_number text ≡ true → length text ≤ 24
    → (result_ok r ≡ option_map (λ n. pos n) (amount_of text)) × IfSome (result_ok r) (λ z. unsigned_abs z < 10 ^ 24)
parse-amount text r h number short =
    let d = number_digits text number in
    let a = amount-is text number short in
    let is = amount_by (digits_value 10 text) (length text) r d.1 a.1 (parse_signed_digits own w128 text r h d.0) in
    (is ∙ sym (ap (option_map (λ n. pos n)) a.0), subst (λ (o : Option ℤ). IfSome o (λ z. unsigned_abs z < 10 ^ 24)) (sym is) a.1)

all_digits : (text : List ℕ) → list_all is_ascii_digit text ≡ all_ascii_digits text
all_digits [] = refl
all_digits (b ∷ bs) = ap (λ (t : Bool). is_ascii_digit b && t) (all_digits bs)

-- a text that is not 0 and does not begin with 0
pub number-by-digits : (text : List ℕ) (r : Bool) → bytes_eq text (codes "0") ≡ false → 48 < slice_index text 0 → r ≡ list_all is_ascii_digit text → r ≡ is_number text
number-by-digits text r other first e =
    rw (other, (Decides-ltb 48 (slice_index text 0)).1 first) (e ∙ all_digits text)

pub amount-long : (text : List ℕ) → 24 < length text → amount_of text ≡ None
unfolding amount_of
amount-long text h =
    let long : nat_le (length text) 24 ≡ false = grind arith in
    ap (λ (t : Bool). if t then number_of text else None) long

pub amount-none : (text : List ℕ) → is_number text ≡ false → amount_of text ≡ None
unfolding amount_of
amount-none text h = by (nat_le (length text) 24)
  where
    by : (t : Bool) → (if t then number_of text else None) ≡ None
    by true = rw h refl
    by false = refl
