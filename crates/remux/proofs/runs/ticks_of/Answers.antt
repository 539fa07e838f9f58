use Rattle.std.proofs.Common.{◌≡◌, pos, ◌-ℤ◌, ◌∙◌, ap, arith}
use Rattle.std.proofs.lemmas.Int.{ints}
use mir.Syntax.{w128}
use mir.Val.{to_z, of_z}
use Rattle.mse_base.specs.Time.{tick, media_ticks}
use Rattle.remux.proofs.TimeLaws.{time-tick}
use Rattle.remux.proofs.runs.ticks_of.Goals as goal

pub unreachable-requires : goal.unreachable-requires
unreachable-requires c =
    let moved = to_z w128 (of_z w128 (to_z w128 (of_z w128 c.from.result) -ℤ to_z w128 (of_z w128 c.from-2.result))) in
    let e : moved ≡ pos c.args.decode -ℤ c.args.shift = omega (arith, ints, c.from.ensures, c.from-2.ensures) in
    let t = time-tick c.args.decode c.args.shift c.args.scale (omega arith) c.requires.shift_not_negative (omega (arith, ints)) in
    let none = c.in-None.is in
    let given = c.convert.ensures ∙ ap (λ z. tick (media_ticks z c.args.scale)) e in
    absurd (cc)

pub returns : goal.returns
returns c =
    let moved = to_z w128 (of_z w128 (to_z w128 (of_z w128 c.from.result) -ℤ to_z w128 (of_z w128 c.from-2.result))) in
    let e : moved ≡ pos c.args.decode -ℤ c.args.shift = omega (arith, ints, c.from.ensures, c.from-2.ensures) in
    let t = time-tick c.args.decode c.args.shift c.args.scale (omega arith) c.requires.shift_not_negative (omega (arith, ints)) in
    let some = c.in-Some.is in
    let given = c.convert.ensures ∙ ap (λ z. tick (media_ticks z c.args.scale)) e in
    let same : c.in-Some.time ≡ media_ticks (pos c.args.decode -ℤ c.args.shift) c.args.scale = cc in
    let back : to_z w128 (of_z w128 c.get.result) ≡ c.get.result = omega (arith, ints, c.get.ensures.value, c.get.ensures.is_tick.0, c.get.ensures.is_tick.1) in
    back ∙ (c.get.ensures.value ∙ same)
