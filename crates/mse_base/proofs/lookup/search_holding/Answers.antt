use Rattle.std.proofs.Common.{◌≡◌, ◌≤ℤ◌, ◌<ℤ◌, ◌-ℤ◌, ℤ, take, drop, subst, arith}
use Rattle.std.specs.List.{AllByRecursion}
use Rattle.std.proofs.lemmas.Int.{ints}
use Rattle.mse_base.proofs.RangeLookUps.{found_here, not_here, past_all}
use Rattle.mse_base.proofs.lookup.search_holding.Goals as goal
use Rattle.mse_base.proofs.lookup.search_holding.Goals.{then-place-len+else-le, else-place-len}

pub returns-then-le : goal.returns-then-le
returns-then-le c =
    let rs = c.args.ranges.now.spans in
    let i = c.count_ending-place.result in
    let z : (c.args.t -ℤ c.zero.result) ≡ c.args.t = omega (arith, ints, c.zero.ensures) in
    let before = subst (λ (t : ℤ). AllByRecursion (λ r. r.end <ℤ t) (take i rs)) z c.count_ending-place.ensures.before in
    let after = subst (λ (t : ℤ). AllByRecursion (λ r. t ≤ℤ r.end) (drop i rs)) z c.count_ending-place.ensures.after in
    let begins : c.get-span.result.start ≤ℤ c.args.t = grind (arith, ints, c.le.ensures, c.if-le.true) in
    found_here c.args.t rs i c.get-span.result (omega (arith, c.if-place-len.true, c.len.ensures)) c.get-span.ensures begins before after

pub returns : goal.returns
returns c =
    let rs = c.args.ranges.now.spans in
    let i = c.count_ending-place.result in
    let z : (c.args.t -ℤ c.zero.result) ≡ c.args.t = omega (arith, ints, c.zero.ensures) in
    let before = subst (λ (t : ℤ). AllByRecursion (λ r. r.end <ℤ t) (take i rs)) z c.count_ending-place.ensures.before in
    elim c.if-place-len.branch [
      | then-place-len+else-le w ↦
          let late : c.args.t <ℤ w.get-span.result.start = grind (arith, ints, w.le.ensures, w.if-le.false) in
          not_here c.args.t rs i w.get-span.result c.requires (omega (arith, w.if-place-len.true, c.len.ensures)) w.get-span.ensures late before
      | else-place-len w ↦ past_all c.args.t rs i (omega (arith, w.if-place-len.false, c.len.ensures)) before
    ]
