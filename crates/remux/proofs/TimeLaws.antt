-- Decode times in ticks.
use Rattle.std.proofs.Common.{◌≡◌, ℕ, ◌<◌, ◌≤◌, ◌^◌, ℤ, pos, negsuc, ◌-ℤ◌, ◌*ℤ◌, ◌≤ℤ◌, ◌<ℤ◌, Some, arith}
use Rattle.std.specs.Prelude.{unsigned_abs}
use Rattle.std.proofs.lemmas.Int.{ints, unsigned_abs-mul}
use Rattle.std.proofs.Math.Nat.{div-le_self}
use Rattle.mse_base.specs.Time.{SECOND, IsTick, tick, floor_div, media_ticks}
use Rattle.mse_base.proofs.TickLemmas.{tick_is}

floor_small : (z : ℤ) (d : ℕ) → unsigned_abs (floor_div z d) ≤ unsigned_abs z
floor_small (pos n) d = div-le_self n d
floor_small (negsuc n) d = omega (arith, div-le_self n d)

converted_small : (m : ℤ) (scale : ℕ) → unsigned_abs m ≤ 2 ^ 68 → unsigned_abs (media_ticks m scale) ≤ 2 ^ 106
converted_small m scale h = omega (arith, unsigned_abs-mul m (pos SECOND), floor_small (m *ℤ pos SECOND) scale)

in_range : (z : ℤ) → unsigned_abs z ≤ 2 ^ 106 → IsTick z
in_range z h = (omega (arith, ints), omega (arith, ints))

-- a decode time that is shifted is a tick
pub time-tick : (decode : ℕ) (shift : ℤ) (scale : ℕ) → decode < 2 ^ 64 → pos 0 ≤ℤ shift → shift <ℤ pos (2 ^ 63) → tick (media_ticks (pos decode -ℤ shift) scale) ≡ Some (media_ticks (pos decode -ℤ shift) scale)
time-tick decode shift scale h low high =
    let small : unsigned_abs (pos decode -ℤ shift) ≤ 2 ^ 68 = omega (arith, ints) in
    tick_is (media_ticks (pos decode -ℤ shift) scale) (in_range (media_ticks (pos decode -ℤ shift) scale) (converted_small (pos decode -ℤ shift) scale small))
