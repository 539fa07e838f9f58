use Rattle.std.proofs.Common.{◌∙◌, ◌-◌, ◌≤ℤ◌, sym, arith}
use Rattle.std.proofs.lemmas.Int.{ints}
use Rattle.mse_base.proofs.Late.{late_joined, late_put}
use Rattle.mse_base.proofs.bridge.join_late.Goals as goal

pub returns-then-is_far_before-clause-spans : goal.returns-then-is_far_before-clause-spans
returns-then-is_far_before-clause-spans c = λ _.
    let n = c.len-len.result in
    let begins : c.get-last.result.start ≤ℤ c.args.span.now.start = grind (arith, ints, c.lt.ensures, c.if-lt.false) in
    c.insert.ensures.spans ∙ late_put c.args.gap c.args.ranges.now.spans (n - 1) n c.args.span.now c.get-last.result c.requires.gap_from_zero c.requires.not_empty c.requires.ranges (omega (arith, c.if-len-eq0.false)) (omega (arith, c.len-len.ensures)) c.get-last.ensures begins (sym c.is_far_before.ensures ∙ c.if-is_far_before.true)

pub returns-clause-spans : goal.returns-clause-spans
returns-clause-spans c = λ _.
    let n = c.len-len.result in
    let begins : c.get-last.result.start ≤ℤ c.args.span.now.start = grind (arith, ints, c.lt.ensures, c.if-lt.false) in
    c.set.ensures.spans ∙ late_joined c.args.gap c.args.ranges.now.spans (n - 1) c.args.span.now c.get-last.result c.longer_span.result c.requires.gap_from_zero c.requires.not_empty c.requires.ranges (omega (arith, c.if-len-eq0.false, c.len-len.ensures)) c.get-last.ensures begins (sym c.is_far_before.ensures ∙ c.if-is_far_before.false) c.longer_span.ensures
