-- What a number of ticks in range is.
use Rattle.std.proofs.Common.{◌≡◌, ℤ, arith, Some, None}
use Rattle.std.proofs.lemmas.Int.{ints}
use Rattle.mse_base.specs.Time.{IsTick, tick}

-- a time has the number that it was made of
pub tick_some : (z t : ℤ) → tick z ≡ Some t → t ≡ z
unfolding tick
tick_some z t e = grind (arith, ints)

-- a number out of range is no time
pub tick_none : (z : ℤ) → tick z ≡ None → IsTick z → ⊥
unfolding tick
tick_none z e h = let low = h.0 in let high = h.1 in grind (arith, ints)

-- a number in range is a time
pub tick_is : (z : ℤ) → IsTick z → tick z ≡ Some z
unfolding tick
tick_is z h = let low = h.0 in let high = h.1 in grind (arith, ints)

-- and a time is in range
pub tick_in_range : (z t : ℤ) → tick z ≡ Some t → IsTick z
unfolding tick
tick_in_range z t e = (grind (arith, ints), grind (arith, ints))
