-- Media times in ticks.
use Rattle.std.proofs.Common.{◌≡◌, ℕ, ◌*◌, ◌/◌, ◌<◌, ◌≤◌, ◌^◌, ◌==◌, Bool, true, false, cond, int_le, ℤ, pos, ◌≤ℤ◌, ◌<ℤ◌, Some, None, Ok, Err, refl, ap, sym, ◌∙◌, arith}
use Rattle.std.proofs.lemmas.Int.{ints}
use Rattle.std.proofs.Math.Nat.{div-le_self}
use Rattle.mse_base.specs.Time.{SECOND, IsTick, tick, media_ticks}
use Rattle.mse_base.proofs.TickLemmas.{tick_some, tick_none, tick_is}
use Rattle.bmff_init.specs.declared.fault.InitFault.TheVariants.{EditList}
use Rattle.bmff_boxes.specs.Reading.{◌>>=◌, check}
use Rattle.bmff_init.specs.Edits.{empty_shift_of}
use Rattle.bmff_init.specs.Movies.{moment_of}
use Rattle.mse_base.specs.declared.ticks.Moment.TheVariants.{At, Infinite}
use Rattle.std.proofs.lemmas.Bool.Decides.{nat_tests}

-- of a duration
pub converted-is : (d scale : ℕ) → media_ticks (pos d) scale ≡ pos (d * SECOND / scale)
converted-is d scale = refl

-- a duration of 64 bits is in range
pub duration-in : (d scale : ℕ) → d < 2 ^ 64 → IsTick (media_ticks (pos d) scale)
duration-in d scale h =
    let small : d * SECOND / scale ≤ d * SECOND = div-le_self (d * SECOND) scale in
    let is = converted-is d scale in
    (rw is (omega (arith, ints)), rw is (omega (arith, ints)))

pub duration-tick : (d scale : ℕ) → d < 2 ^ 64 → tick (media_ticks (pos d) scale) ≡ Some (media_ticks (pos d) scale)
duration-tick d scale h = tick_is (media_ticks (pos d) scale) (duration-in d scale h)

shift_by : (z : ℤ) (t : Bool) → int_le z (pos (2 ^ 109)) ≡ t → (check EditList (int_le z (pos (2 ^ 109))) >>= λ _. Ok z) ≡ cond t (Ok z) (Err EditList)
shift_by z true e = ap (λ b. check EditList b >>= λ _. Ok z) e
shift_by z false e = ap (λ b. check EditList b >>= λ _. Ok z) e

-- an empty shift in range, above it, and beyond all times
pub shift-ok : (d scale : ℕ) (shift : ℤ) → Some shift ≡ tick (media_ticks (pos d) scale) → shift ≤ℤ pos (2 ^ 109) → Ok shift ≡ empty_shift_of scale d
shift-ok d scale shift e h =
    let is : shift ≡ media_ticks (pos d) scale = tick_some (media_ticks (pos d) scale) shift (sym e) in
    let le : int_le (media_ticks (pos d) scale) (pos (2 ^ 109)) ≡ true = grind (arith, ints) in
    ap Ok is ∙ sym (shift_by (media_ticks (pos d) scale) true le)

pub shift-over : (d scale : ℕ) (shift : ℤ) → Some shift ≡ tick (media_ticks (pos d) scale) → pos (2 ^ 109) <ℤ shift → Err EditList ≡ empty_shift_of scale d
shift-over d scale shift e h =
    let is : shift ≡ media_ticks (pos d) scale = tick_some (media_ticks (pos d) scale) shift (sym e) in
    let gt : int_le (media_ticks (pos d) scale) (pos (2 ^ 109)) ≡ false = grind (arith, ints) in
    sym (shift_by (media_ticks (pos d) scale) false gt)

none_by : (z : ℤ) (t : Bool) → pos 0 ≤ℤ z → None ≡ tick z → int_le z (pos (2 ^ 109)) ≡ t → Err EditList ≡ cond t (Ok z) (Err EditList)
none_by z true low e h = absurd (tick_none z (sym e) (grind (arith, ints), grind (arith, ints)))
none_by z false low e h = refl

pub shift-none : (d scale : ℕ) → None ≡ tick (media_ticks (pos d) scale) → Err EditList ≡ empty_shift_of scale d
shift-none d scale e =
    let low : pos 0 ≤ℤ media_ticks (pos d) scale = rw (converted-is d scale) (omega (arith, ints)) in
    none_by (media_ticks (pos d) scale) _ low e refl ∙ sym (shift_by (media_ticks (pos d) scale) _ refl)

pub not-tick : (d scale : ℕ) → d < 2 ^ 64 → None ≡ tick (media_ticks (pos d) scale) → ⊥
not-tick d scale h e = let t = duration-tick d scale h in cc

pub moment-end : (d scale : ℕ) (end : ℤ) → (d ≡ 0 → ⊥) → Some end ≡ tick (media_ticks (pos d) scale) → At end ≡ moment_of scale d
moment-end d scale end h e =
    let some : (d == 0) ≡ false = grind (arith, nat_tests) in
    let is : end ≡ media_ticks (pos d) scale = tick_some (media_ticks (pos d) scale) end (sym e) in
    ap At is ∙ sym (ap (λ b. cond b Infinite (At (media_ticks (pos d) scale))) some)
