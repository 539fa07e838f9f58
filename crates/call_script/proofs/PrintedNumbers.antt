-- Numbers are read exactly as they are printed.
use Rattle.std.proofs.Common.{◌≡◌, ◌∙◌, ℕ, ◌<◌, ◌^◌, List, length, get_or, Bool, true, false, refl, sym, ap, arith}
use Rattle.std.specs.Prelude.{◌&&◌, ◌||◌, nat_lt, slice_index, if◌then◌else◌, Some, None, codes, bytes_eq}
use Rattle.std.specs.Fmt.{decimal}
use Rattle.std.specs.Str.Parse.{digits_value}
use Rattle.std.proofs.lemmas.Bool.Decides.{Decides-ltb}
use Rattle.std.proofs.lemmas.Fmt.{decimal-digits_value}
use Rattle.std.proofs.lemmas.Slice.Eq.{bytes_eq-Decides}
use Rattle.call_script.specs.Numbers.{is_number, number_of}
use Rattle.call_script.proofs.ParsedNumbers.{own, number_digits}

-- no zero leads
no_zero_by : (text : List ℕ) (zero_text first digits : Bool) → bytes_eq text (codes "0") ≡ zero_text → nat_lt 48 (slice_index text 0) ≡ first
    → (zero_text || (first && digits)) ≡ true → get_or text 0 0 ≡ 48 → length text ≡ 1
no_zero_by text true first digits e f h zero = ap length ((bytes_eq-Decides text (codes "0")).0 e)
no_zero_by text false true digits e f h zero = let above : 48 < slice_index text 0 = (Decides-ltb 48 (slice_index text 0)).0 f in absurd (omega arith)
no_zero_by text false false digits e f h zero = cc

number_read_by : (text : List ℕ) (n : ℕ) (t : Bool) → is_number text ≡ t → (if t then Some (digits_value 10 text) else None) ≡ Some n → n < 2 ^ 64 → text ≡ decimal n
number_read_by text n true h e small =
    let value : digits_value 10 text ≡ n = cc in
    let d = number_digits text h in
    sym (decimal-digits_value own text d.0 d.1 (no_zero_by text _ _ _ refl refl h) (omega (arith, value, small))) ∙ ap decimal value
number_read_by text n false h e small = cc

pub number_read : (text : List ℕ) (n : ℕ) → number_of text ≡ Some n → n < 2 ^ 64 → text ≡ decimal n
number_read text n e small = number_read_by text n (is_number text) refl e small
