-- How long a frame lasts is a time.
use Rattle.std.proofs.Common.{◌≡◌, ℕ, ◌*◌, ◌≤◌, pos, Some, arith}
use Rattle.std.proofs.lemmas.Int.{ints}
use Rattle.std.proofs.Math.Nat.{div-le_self}
use Rattle.mse_base.specs.Time.{SECOND, IsTick, tick, media_ticks}
use Rattle.mse_base.proofs.TickLemmas.{tick_is}

lasts-tick : (n rate : ℕ) → n ≤ 4096 → IsTick (media_ticks (pos n) rate)
lasts-tick n rate h = (omega (arith, ints), omega (arith, ints, div-le_self (n * SECOND) rate))

pub lasts : (n rate : ℕ) → n ≤ 4096 → tick (media_ticks (pos n) rate) ≡ Some (media_ticks (pos n) rate)
lasts n rate h = tick_is (media_ticks (pos n) rate) (lasts-tick n rate h)
