use Rattle.std.proofs.Common.{◌≡◌, ◌<◌, ◌^◌, ℕ, pos, neg_ℤ, ap, arith, to_z, of_z}
use Rattle.std.specs.Prelude.{Bool, true, ◌&&◌, Some, None, if◌then◌else◌, int_le}
use Rattle.std.specs.Int.{w128}
use Rattle.std.proofs.lemmas.Grind.{common_steps}
use Rattle.std.proofs.lemmas.Int.{ints, to_z-of_z}
use Rattle.mse_base.specs.Time.{tick}
use Rattle.mse_commands.proofs.commands.gap_of.Goals as goal

in_range : (n : ℕ) → n < 2 ^ 64 → (int_le (neg_ℤ (pos (2 ^ 110))) (pos n) && int_le (pos n) (pos (2 ^ 110))) ≡ true
in_range n h = grind (arith, ints, common_steps)

tick_at : (n : ℕ) → n < 2 ^ 64 → tick (pos n) ≡ Some (pos n)
unfolding tick
tick_at n h = ap (λ (t : Bool). if t then Some (pos n) else None) (in_range n h)

pub returns-in-Some : goal.returns-in-Some
returns-in-Some c =
    let fits : c.args.script.now.gap < 2 ^ 64 = omega arith in
    let back : to_z w128 (of_z w128 c.from.result) ≡ c.from.result = grind (arith, ints, to_z-of_z) in
    let at = tick_at c.args.script.now.gap fits in
    cc (back, at, c.new.ensures, c.in-Some.is, c.from.ensures)

pub returns-in-None : goal.returns-in-None
returns-in-None c =
    let fits : c.args.script.now.gap < 2 ^ 64 = omega arith in
    let back : to_z w128 (of_z w128 c.from.result) ≡ c.from.result = grind (arith, ints, to_z-of_z) in
    let at = tick_at c.args.script.now.gap fits in
    cc (back, at, c.new.ensures, c.in-None.is, c.from.ensures)
