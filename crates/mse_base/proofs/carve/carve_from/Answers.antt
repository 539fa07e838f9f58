use Rattle.std.proofs.Common.{◌∙◌, ◌<ℤ◌, ◌-ℤ◌, ◌+ℤ◌, sym, arith}
use Rattle.std.proofs.lemmas.Int.{ints}
use Rattle.mse_base.proofs.Places.{carved_end, carved_split, carved_step}
use Rattle.mse_base.proofs.carve.carve_from.Goals as goal

pub returns-then-not-has_start_before_gap_end-clause-spans : goal.returns-then-not-has_start_before_gap_end-clause-spans
returns-then-not-has_start_before_gap_end-clause-spans c =
    let hole_not_empty = c.requires.hole_not_empty in
    let gap_from_zero = c.requires.gap_from_zero in
    let wide : (c.args.hole.now.start -ℤ c.args.gap) <ℤ (c.args.hole.now.end +ℤ c.args.gap) = omega (arith, ints) in
    carved_end c.args.gap _ _ c.loop-i.ranges.spans _ c.loop-i.i c.get-s.result gap_from_zero wide (omega arith) c.get-s.ensures (sym c.has_start_before_gap_end.ensures ∙ c.if-not-has_start_before_gap_end.true) c.loop-i.invariant.ranges c.loop-i.invariant.items

pub returns-in-Some-clause-spans : goal.returns-in-Some-clause-spans
returns-in-Some-clause-spans c =
    let hole_not_empty = c.requires.hole_not_empty in
    let gap_from_zero = c.requires.gap_from_zero in
    let wide : (c.args.hole.now.start -ℤ c.args.gap) <ℤ (c.args.hole.now.end +ℤ c.args.gap) = omega (arith, ints) in
    c.insert.ensures.spans ∙ carved_split c.args.gap _ _ c.loop-i.ranges.spans c.replace-i.new.ranges.spans _ c.loop-i.i c.get-s.result _ c.in-Some.right c.replace-i.result gap_from_zero wide (omega arith) c.get-s.ensures c.loop-i.invariant.ranges c.loop-i.invariant.items c.left_of.ensures c.in-Some.ensures c.replace-i.ensures.spans c.replace-i.ensures.place

pub loop-i-preserved : goal.loop-i-preserved
loop-i-preserved c =
    let step = carved_step c.args.gap _ _ c.loop-i.ranges.spans c.replace-i.new.ranges.spans _ c.loop-i.i c.get-s.result _ _ c.replace-i.result (omega arith) c.get-s.ensures c.loop-i.invariant.ranges c.loop-i.invariant.items c.left_of.ensures c.in_default.ensures c.replace-i.ensures.spans c.replace-i.ensures.place in
    record {
      within = step.within;
      items = step.items;
      some = omega (arith, c.replace-i.ensures.len, c.replace-i.ensures.room, c.replace-i.ensures.step, c.loop-i.invariant.some);
      room = c.loop-i.invariant.room ∙ c.replace-i.ensures.room;
      ranges = step.ranges;
    }

pub replace-i-requires-clause-small : goal.replace-i-requires-clause-small
replace-i-requires-clause-small c = omega (arith, c.len.ensures, c.len.type_inv)
