-- Printed numbers, read back.
use Rattle.std.proofs.Common.{◌≡◌, ◌∙◌, ℕ, zero, suc, ◌+◌, ◌<◌, ◌≤◌, ◌^◌, ◌/◌, ◌%◌, List, [], ◌∷◌, ◌++◌, length, get_or, Bool, true, false, refl, ap, arith, lit<}
use Rattle.std.specs.Prelude.{◌==◌, ◌&&◌, ◌||◌, nat_le, nat_lt, slice_index, if◌then◌else◌, Some, None, codes, bytes_eq}
use Rattle.std.specs.List.{list_any}
use Rattle.std.specs.Fmt.{decimal}
use Rattle.std.specs.Str.{all_ascii_digits}
use Rattle.std.specs.Str.Parse.{digits_value}
use Rattle.std.proofs.lemmas.Bool.Decides.{Decides-ltb, Decides-eqb}
use Rattle.std.proofs.lemmas.Fmt.{decimal_is_IsNumeral_wide, decimal_by_steps_wide, length-decimal-le_wide, decimal_digit}
use Rattle.std.proofs.lemmas.Str.Parse.{tells_all_ascii_digits}
use Rattle.event_text.specs.Words.{is_printable}
use Rattle.call_script.specs.Numbers.{is_number, number_of, number_if_below, number_below, index_of, size_of}
use Rattle.call_script.specs.Times.{amount_of}
use Rattle.call_script.proofs.ParsedNumbers.{own, below-yes}
use Rattle.call_script.proofs.Spaces.{IsAbsentFrom, IsPrintableText}

-- the first digit of a number that is not 0 is not 0
abbrev HasNoLeadingZero : ℕ → List ℕ → Type 0
HasNoLeadingZero n ds = 0 < n → 48 < get_or ds 0 0

above-more : (n : ℕ) (ds : List ℕ) → 10 ≤ n → HasNoLeadingZero (n / 10) ds → HasNoLeadingZero n (ds ++ ((48 + n % 10) ∷ []))
above-more n [] ten h = λ some. absurd (omega (arith, h (omega arith)))
above-more n (d ∷ ds) ten h = λ some. h (omega arith)

first-above : (n : ℕ) → n < 10 ^ 64 → HasNoLeadingZero n (decimal n)
first-above n small = decimal_by_steps_wide HasNoLeadingZero (λ m one some. omega arith) above-more n small

pub digits : (n : ℕ) → n < 10 ^ 64 → (all_ascii_digits (decimal n) ≡ true) × (digits_value 10 (decimal n) ≡ n)
digits n small = let d = decimal_is_IsNumeral_wide n small in (own.from (decimal n) d.0.1, d.1)

or-right : (x y : Bool) → y ≡ true → (x || y) ≡ true
or-right true y e = refl
or-right false y e = e

is_number-decimal : (n : ℕ) → n < 10 ^ 64 → is_number (decimal n) ≡ true
is_number-decimal zero small = rw (decimal_digit 0 (lit< tt)) refl
is_number-decimal (suc m) small =
    or-right (bytes_eq (decimal (suc m)) (codes "0")) (nat_lt 48 (slice_index (decimal (suc m)) 0) && all_ascii_digits (decimal (suc m)))
    (rw ((Decides-ltb 48 (slice_index (decimal (suc m)) 0)).1 (first-above (suc m) small (omega arith))) (digits (suc m) small).0)

pub number_of-decimal : (n : ℕ) → n < 10 ^ 64 → number_of (decimal n) ≡ Some n
number_of-decimal n small = rw (is_number-decimal n small) (ap (λ (v : ℕ). Some v) (digits n small).1)

pub below-decimal : (limit n : ℕ) → n < limit → n < 10 ^ 64 → number_below limit (decimal n) ≡ Some n
below-decimal limit n h small = rw (is_number-decimal n small) (ap (number_if_below limit) (digits n small).1 ∙ below-yes limit n h)

pub index-decimal : (n : ℕ) → n < 2 ^ 32 → index_of (decimal n) ≡ Some n
unfolding index_of
index-decimal n h = below-decimal (2 ^ 32) n h (omega (arith, h))

pub size-decimal : (n : ℕ) → n < 2 ^ 63 → size_of (decimal n) ≡ Some n
unfolding size_of
size-decimal n h = below-decimal (2 ^ 63) n h (omega (arith, h))

pub amount-decimal : (n : ℕ) → n < 10 ^ 24 → amount_of (decimal n) ≡ Some n
unfolding amount_of
amount-decimal n h =
    let short : nat_le (length (decimal n)) 24 ≡ true = grind (arith, length-decimal-le_wide 24 n (lit< tt) h (omega (arith, h))) in
    ap (λ (t : Bool). if t then number_of (decimal n) else None) short ∙ number_of-decimal n (omega (arith, h))

-- digits print, and are no marks
pub digits-print : (ds : List ℕ) → all_ascii_digits ds ≡ true → IsPrintableText ds
digits-print [] h = record { all = refl }
digits-print (d ∷ ds) h =
    let parts = tells_all_ascii_digits.parts d ds h in
    let in_line : is_printable d ≡ true = grind (arith, parts.0.0, parts.0.1) in
    record { all = rw in_line (digits-print ds parts.1).all }

pub digits-lack : (mark : ℕ) (ds : List ℕ) → mark < 48 → all_ascii_digits ds ≡ true → IsAbsentFrom mark ds
digits-lack mark [] low h = record { none = refl }
digits-lack mark (d ∷ ds) low h =
    let parts = tells_all_ascii_digits.parts d ds h in
    record { none = by (d == mark) refl parts.0.0 (digits-lack mark ds low parts.1).none }
  where
    by : (t : Bool) → (d == mark) ≡ t → 48 ≤ d → list_any (λ b. b == mark) ds ≡ false → (t || list_any (λ b. b == mark) ds) ≡ false
    by true e digit rest = let same : d ≡ mark = (Decides-eqb d mark).0 e in absurd (omega arith)
    by false e digit rest = rest

pub prints-decimal : (n : ℕ) → n < 10 ^ 64 → IsPrintableText (decimal n)
prints-decimal n small = digits-print (decimal n) (digits n small).0

pub lacks-decimal : (mark n : ℕ) → mark < 48 → n < 10 ^ 64 → IsAbsentFrom mark (decimal n)
lacks-decimal mark n low small = digits-lack mark (decimal n) low (digits n small).0
