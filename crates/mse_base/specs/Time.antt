-- Times in ticks, and media times converted to ticks.
use Rattle.std.specs.Prelude.{ℕ, ◌/◌, ◌^◌, ◌&&◌, ℤ, pos, negsuc, neg_ℤ, ◌+ℤ◌, ◌*ℤ◌, ◌≤ℤ◌, ◌<ℤ◌, int_le, Option, Some, None, if◌then◌else◌}

-- ticks in a second
abbrev pub SECOND : ℕ
SECOND = 141120000000

-- at most 2 ^ 110 ticks from 0
abbrev pub IsTick : ℤ → Type 0
IsTick z = (neg_ℤ (pos (2 ^ 110)) ≤ℤ z) × (z ≤ℤ pos (2 ^ 110))

-- the number as a time, where it is in range
unfoldable pub tick : ℤ → Option ℤ
tick z = if int_le (neg_ℤ (pos (2 ^ 110))) z && int_le z (pos (2 ^ 110)) then Some z else None

-- the floor of z / d, towards minus infinity
abbrev pub floor_div : ℤ → ℕ → ℤ
floor_div (pos n) d = pos (n / d)
floor_div (negsuc n) d = negsuc (n / d)

-- a media time, in units of which `scale` make a second, in ticks
abbrev pub media_ticks : ℤ → ℕ → ℤ
media_ticks m scale = floor_div (m *ℤ pos SECOND) scale

-- q is the greatest whole number that times d is at most z
abbrev pub IsFloor : ℤ → ℕ → ℤ → Type 0
IsFloor z d q = ((q *ℤ pos d) ≤ℤ z) × (z <ℤ ((q +ℤ pos 1) *ℤ pos d))
