use Rattle.std.proofs.Common.{◌≡◌, pos, ◌≤ℤ◌, ◌<ℤ◌, ◌^◌, to_z, Some, sym, ap, ◌∙◌, arith}
use Rattle.std.specs.Int.{w128}
use Rattle.std.proofs.lemmas.Int.{ints}
use Rattle.mse_base.specs.Time.{tick, media_ticks}
use Rattle.bmff_init.proofs.TimeLaws.{shift-ok, shift-over, shift-none}
use Rattle.bmff_init.proofs.edits.empty_shift.Goals as goal
use Rattle.bmff_init.proofs.edits.empty_shift.Goals.{in_default-via-in-Some+else-get-le-MOST_SHIFT, in_default-via-in_default}

pub returns-in-Some : goal.returns-in-Some
returns-in-Some c =
    let cast : to_z w128 c.args.duration ≡ pos c.args.duration = omega (arith, ints) in
    let given : Some c.in-Some.shift ≡ tick (media_ticks (pos c.args.duration) c.args.scale) = sym c.in-Some.is ∙ (c.convert.ensures ∙ ap (λ z. tick (media_ticks z c.args.scale)) cast) in
    let few : c.in-Some.shift ≤ℤ pos (2 ^ 109) = grind (arith, ints, c.if-get-le-MOST_SHIFT.true, c.get.ensures.value) in
    shift-ok c.args.duration c.args.scale c.in-Some.shift given few

pub returns-in_default : goal.returns-in_default
returns-in_default c =
    let cast : to_z w128 c.args.duration ≡ pos c.args.duration = omega (arith, ints) in
    let is : c.convert.result ≡ tick (media_ticks (pos c.args.duration) c.args.scale) = c.convert.ensures ∙ ap (λ z. tick (media_ticks z c.args.scale)) cast in
    elim c.in_default.branch [
      | in_default-via-in-Some+else-get-le-MOST_SHIFT w ↦
          let over : pos (2 ^ 109) <ℤ w.in-Some.shift = grind (arith, ints, w.if-get-le-MOST_SHIFT.false, w.get.ensures.value) in
          shift-over c.args.duration c.args.scale w.in-Some.shift (sym w.in-Some.is ∙ is) over
      | in_default-via-in_default w ↦ shift-none c.args.duration c.args.scale (sym w.in_default.is ∙ is)
    ]
