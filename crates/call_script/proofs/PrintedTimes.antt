-- Printed times, read back.
use Rattle.std.proofs.Common.{◌≡◌, ◌∙◌, ℕ, suc, ◌<◌, ◌≤◌, ◌^◌, List, [], ◌∷◌, Bool, true, false, ℤ, pos, negsuc, refl, ap, arith, lit<}
use Rattle.std.specs.Prelude.{◌==◌, ◌&&◌, if◌then◌else◌, unsigned_abs, Some, None, option_map, option_and_then, bytes_eq, nat_eq}
use Rattle.std.specs.Fmt.{decimal, signed_decimal}
use Rattle.std.specs.Str.{all_ascii_digits}
use Rattle.std.proofs.lemmas.Bool.Decides.{Decides-eqb}
use Rattle.std.proofs.lemmas.Int.{ints}
use Rattle.std.proofs.lemmas.Str.Parse.{tells_all_ascii_digits}
use Rattle.mse_base.specs.Time.{IsTick}
use Rattle.mse_base.specs.declared.ticks.Moment.{Moment}
use Rattle.mse_base.specs.declared.ticks.Moment.TheVariants.{Nan, At, Infinite}
use Rattle.mse_base.proofs.TickLemmas.{tick_is}
use Rattle.event_text.specs.Times.{moment_text}
use Rattle.call_script.specs.Words.{rest_after}
use Rattle.call_script.specs.Times.{amount_of, negative_of, signed_of, ticks_of, finite_of, time_of}
use Rattle.call_script.specs.ReadBack.{HasFewDigits}
use Rattle.call_script.proofs.Signs.{amount-empty}
use Rattle.call_script.proofs.Spaces.{IsAbsentFrom, IsPrintableText, before-alone, rest_after-alone}
use Rattle.call_script.proofs.Decimals.{digits, amount-decimal, prints-decimal, lacks-decimal}

in_range : (z : ℤ) → unsigned_abs z < 10 ^ 24 → IsTick z
in_range z h = (omega (arith, ints), omega (arith, ints))

-- a number begins with neither a minus sign nor a letter
signed-digits : (ds : List ℕ) (n : ℕ) → all_ascii_digits ds ≡ true → amount_of ds ≡ Some n → signed_of ds ≡ Some (pos n)
signed-digits [] n h e = let none : amount_of [] ≡ None = amount-empty in cc
signed-digits (d ∷ ds) n h e = by (d == 45) refl (tells_all_ascii_digits.parts d ds h).0.0
  where
    by : (t : Bool) → (d == 45) ≡ t → 48 ≤ d → (if t then option_and_then negative_of (amount_of ds) else option_map (λ m. pos m) (amount_of (d ∷ ds))) ≡ Some (pos n)
    by true same digit = let is : d ≡ 45 = (Decides-eqb d 45).0 same in absurd (omega arith)
    by false same digit = ap (option_map (λ m. pos m)) e

pub signed-decimal : (z : ℤ) → unsigned_abs z < 10 ^ 24 → signed_of (signed_decimal z) ≡ Some z
signed-decimal (pos n) h = signed-digits (decimal n) n (digits n (omega (arith, h))).0 (amount-decimal n h)
signed-decimal (negsuc n) h = ap (option_and_then negative_of) (amount-decimal (suc n) (omega (arith, h)))

pub lacks-signed : (mark : ℕ) (z : ℤ) → mark < 48 → (45 == mark) ≡ false → unsigned_abs z < 10 ^ 24 → IsAbsentFrom mark (signed_decimal z)
lacks-signed mark (pos n) low other h = lacks-decimal mark n low (omega (arith, h))
lacks-signed mark (negsuc n) low other h = record { none = rw other (lacks-decimal mark (suc n) low (omega (arith, h))).none }

prints-signed : (z : ℤ) → unsigned_abs z < 10 ^ 24 → IsPrintableText (signed_decimal z)
prints-signed (pos n) h = prints-decimal n (omega (arith, h))
prints-signed (negsuc n) h = record { all = (prints-decimal (suc n) (omega (arith, h))).all }

-- it is not one of the words
no_letter : (ds : List ℕ) (letter : ℕ) (rest : List ℕ) → 57 < letter → all_ascii_digits ds ≡ true → bytes_eq ds (letter ∷ rest) ≡ false
no_letter [] letter rest high h = refl
no_letter (d ∷ ds) letter rest high h = by (nat_eq d letter) refl (tells_all_ascii_digits.parts d ds h).0.1
  where
    by : (t : Bool) → (d == letter) ≡ t → d ≤ 57 → (t && bytes_eq ds rest) ≡ false
    by true same digit = let is : d ≡ letter = (Decides-eqb d letter).0 same in absurd (omega arith)
    by false same digit = refl

no_word : (z : ℤ) (letter : ℕ) (rest : List ℕ) → 57 < letter → (45 == letter) ≡ false → unsigned_abs z < 10 ^ 24 → bytes_eq (signed_decimal z) (letter ∷ rest) ≡ false
no_word (pos n) letter rest high other h = no_letter (decimal n) letter rest high (digits n (omega (arith, h))).0
no_word (negsuc n) letter rest high other h = rw other refl

finite-decimal : (z : ℤ) → unsigned_abs z < 10 ^ 24 → finite_of (signed_decimal z) ≡ Some z
finite-decimal z h =
    let lacks = lacks-signed 47 z (lit< tt) refl h in
    ap (λ (t : List ℕ). option_and_then (λ n. ticks_of n (rest_after 47 (signed_decimal z))) (signed_of t)) (before-alone 47 (signed_decimal z) lacks)
    ∙ ap (option_and_then (λ n. ticks_of n (rest_after 47 (signed_decimal z)))) (signed-decimal z h)
    ∙ ap (ticks_of z) (rest_after-alone 47 (signed_decimal z) lacks)
    ∙ tick_is z (in_range z h)

pub time-text : (t : Moment) → HasFewDigits t → time_of (moment_text t) ≡ Some t
unfolding time_of
time-text Nan h = refl
time-text Infinite h = refl
time-text (At z) h =
    rw (no_word z 110 (97 ∷ 110 ∷ []) (lit< tt) refl h, no_word z 105 (110 ∷ 102 ∷ []) (lit< tt) refl h)
    (ap (option_map (λ x. At x)) (finite-decimal z h))

pub lacks-time : (t : Moment) → HasFewDigits t → IsAbsentFrom 32 (moment_text t)
lacks-time Nan h = record { none = refl }
lacks-time Infinite h = record { none = refl }
lacks-time (At z) h = lacks-signed 32 z (lit< tt) refl h

pub prints-time : (t : Moment) → HasFewDigits t → IsPrintableText (moment_text t)
prints-time Nan h = record { all = refl }
prints-time Infinite h = record { all = refl }
prints-time (At z) h = prints-signed z h
