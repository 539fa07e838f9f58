use Rattle.std.proofs.Common.{◌∙◌, ◌-◌, ◌≤ℤ◌, sym, arith}
use Rattle.std.proofs.lemmas.Int.{ints}
use Rattle.mse_base.proofs.Late.{before_joined, before_closed}
use Rattle.mse_base.proofs.bridge.join_before_last.Goals as goal

pub longer_span-longer-requires : goal.longer_span-longer-requires
longer_span-longer-requires c = grind (arith, ints, c.lt.ensures, c.if-lt.false)

pub returns-then-is_far_before-2-clause-spans : goal.returns-then-is_far_before-2-clause-spans
returns-then-is_far_before-2-clause-spans c = λ _.
    let n = c.len-len.result in
    let begins : c.get-before.result.start ≤ℤ c.args.span.now.start = grind (arith, ints, c.lt.ensures, c.if-lt.false) in
    c.set.ensures.spans ∙ before_joined c.args.gap c.args.ranges.now.spans (n - 2) (n - 1) c.args.span.now c.get-before.result c.longer_span-longer.result c.get-last.result c.requires.gap_from_zero c.requires.not_empty c.requires.ranges (omega (arith, c.if-len-lt2.false)) (omega (arith, c.if-len-lt2.false, c.len-len.ensures)) c.get-before.ensures c.get-last.ensures begins (sym c.is_far_before.ensures ∙ c.if-is_far_before.false) c.longer_span-longer.ensures (sym c.is_far_before-2.ensures ∙ c.if-is_far_before-2.true)

pub returns-clause-spans : goal.returns-clause-spans
returns-clause-spans c = λ _.
    let n = c.len-len.result in
    let begins : c.get-before.result.start ≤ℤ c.args.span.now.start = grind (arith, ints, c.lt.ensures, c.if-lt.false) in
    before_closed c.args.gap c.args.ranges.now.spans c.set-2.new.self.spans c.remove.new.self.spans (n - 2) (n - 1) c.args.span.now c.get-before.result c.longer_span-longer.result c.get-last.result c.span_round.result c.requires.gap_from_zero c.requires.not_empty c.requires.ranges (omega (arith, c.if-len-lt2.false)) (omega (arith, c.if-len-lt2.false, c.len-len.ensures)) c.get-before.ensures c.get-last.ensures begins (sym c.is_far_before.ensures ∙ c.if-is_far_before.false) c.longer_span-longer.ensures (sym c.is_far_before-2.ensures ∙ c.if-is_far_before-2.false) c.span_round.ensures c.set-2.ensures.spans c.remove.ensures.spans
