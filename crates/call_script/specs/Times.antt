-- Times, in ticks or as fractions of a second.
use Rattle.std.specs.Prelude.{ℕ, zero, suc, ◌==◌, nat_le, ℤ, pos, negsuc, List, [], ◌∷◌, length, Option, Some, None, option_map, option_and_then, if◌then◌else◌, codes, bytes_eq}
use Rattle.mse_base.specs.Time.{tick, media_ticks}
use Rattle.mse_base.specs.declared.ticks.Moment.{Moment}
use Rattle.mse_base.specs.declared.ticks.Moment.TheVariants.{Nan, At, Infinite}
use Rattle.call_script.specs.Words.{text_before, rest_after}
use Rattle.call_script.specs.Numbers.{number_of, index_of}

-- a number of at most 24 digits
unfoldable pub amount_of : List ℕ → Option ℕ
amount_of text = if nat_le (length text) 24 then number_of text else None

-- the number with a minus sign, which 0 does not take
abbrev pub negative_of : ℕ → Option ℤ
negative_of zero = None
negative_of (suc n) = Some (negsuc n)

-- an amount, behind a minus sign where it is below zero
abbrev pub signed_of : List ℕ → Option ℤ
signed_of [] = None
signed_of (byte ∷ bytes) =
    if byte == 45 then option_and_then negative_of (amount_of bytes)
    else option_map (λ n. pos n) (amount_of (byte ∷ bytes))

-- how many units make a second: from 1 to 2 ^ 32 - 1
abbrev pub positive_of : ℕ → Option ℕ
positive_of zero = None
positive_of (suc n) = Some (suc n)

abbrev pub scale_of : List ℕ → Option ℕ
scale_of text = option_and_then positive_of (index_of text)

-- a number in ticks, or in units of the scale that stands behind the slash
abbrev pub ticks_of : ℤ → Option (List ℕ) → Option ℤ
ticks_of n None = tick n
ticks_of n (Some scale) = option_and_then (λ units. tick (media_ticks n units)) (scale_of scale)

abbrev pub finite_of : List ℕ → Option ℤ
finite_of text =
    option_and_then (λ n. ticks_of n (rest_after 47 text)) (signed_of (text_before 47 text))

unfoldable pub time_of : List ℕ → Option Moment
time_of text =
    if bytes_eq text (codes "nan") then Some Nan
    else (if bytes_eq text (codes "inf") then Some Infinite
    else option_map (λ t. At t) (finite_of text))
