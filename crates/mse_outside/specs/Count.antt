-- Counts of 64 bits that stand still at their end.
use Rattle.std.specs.Prelude.{ℕ, ◌+◌, ◌-◌, ◌^◌, nat_lt, if◌then◌else◌}

-- one more; the last value stays
abbrev pub next_count : ℕ → ℕ
next_count n = if nat_lt n (2 ^ 64 - 1) then n + 1 else n
