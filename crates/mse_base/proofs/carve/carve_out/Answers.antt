use Rattle.std.proofs.Common.{◌∙◌, ◌<ℤ◌, ◌-ℤ◌, ◌+ℤ◌, refl, arith}
use Rattle.std.proofs.lemmas.Int.{ints}
use Rattle.mse_base.proofs.Places.{carved_skips, ranges_drop}
use Rattle.mse_base.proofs.carve.carve_out.Goals as goal

pub carve_from-requires-clause-ranges : goal.carve_from-requires-clause-ranges
carve_from-requires-clause-ranges c = ranges_drop c.args.gap c.args.ranges.now.spans c.place_reaching-from.result c.requires.ranges

pub returns-clause-spans : goal.returns-clause-spans
returns-clause-spans c =
    let hole_not_empty = c.requires.hole_not_empty in
    let gap_from_zero = c.requires.gap_from_zero in
    let rs = c.args.ranges.now.spans in
    let wide : (c.args.hole.now.start -ℤ c.args.gap) <ℤ (c.args.hole.now.end +ℤ c.args.gap) = omega (arith, ints) in
    c.carve_from.ensures.spans ∙ carved_skips c.args.gap c.args.hole.now.start _ c.args.hole.now rs c.place_reaching-from.result gap_from_zero refl wide c.requires.ranges c.place_reaching-from.ensures.skipped
