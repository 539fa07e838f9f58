use Rattle.std.proofs.Common.{◌≡◌, List, subst, refl, arith}
use Rattle.std.proofs.lemmas.Int.{ints}
use Rattle.mse_base.specs.declared.span.Span.{Span}
use Rattle.mse_base.specs.Bridging.{ranges_with}
use Rattle.mse_base.proofs.Unions.{begin, step, finish}
use Rattle.mse_base.proofs.combine.union_of.Goals as goal

pub heads-init : goal.heads-init
heads-init c = rw c.new-spans.ensures (begin c.args.left.now c.args.right.now)

pub heads-preserved : goal.heads-preserved
heads-preserved c =
    let new = subst (λ (rs : List Span). c.join_in.new.ranges.spans ≡ ranges_with c.zero.result rs c.in-Some.span) c.in_ok-reserve.ensures.spans c.join_in.ensures.spans in
    step _ _ c.heads.heads.left.now c.heads.heads.right.now _ _ c.heads.spans.spans _ c.in-Some.span c.zero.result c.zero.ensures (omega (arith, ints)) c.in-Some.ensures.some new c.heads.invariant

pub returns : goal.returns
returns c =
    let none = c.in_default.ensures.none refl in
    finish _ _ c.heads.heads.left.now c.heads.heads.right.now c.heads.spans.spans (omega (arith, ints)) none.0 none.1 c.heads.invariant
