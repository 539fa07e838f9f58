use Rattle.std.proofs.Common.{◌≡◌, ◌<◌, ◌≤ℤ◌, ◌<ℤ◌, ◌-ℤ◌, ℤ, length, take, drop, subst, arith}
use Rattle.std.specs.List.{AllByRecursion}
use Rattle.std.proofs.lemmas.Int.{ints}
use Rattle.std.proofs.lemmas.List.{drop_all}
use Rattle.mse_base.proofs.Beside.{IsBehind, each_so, front_more, back_more, first_of_back, behind_place, front_started}
use Rattle.mse_base.proofs.lookup.count_started.Goals as goal
use Rattle.mse_base.proofs.lookup.count_started.Goals.{else-count-len-via-then-count-len+else-lt, else-count-len-via-else-count-len}

pub returns-then-lt-clause-started : goal.returns-then-lt-clause-started
returns-then-lt-clause-started c =
    let rs = c.args.ranges.now.spans in
    let i = c.count_ending-count.result in
    let z : (c.args.t -ℤ c.zero.result) ≡ c.args.t = omega (arith, ints, c.zero.ensures) in
    let before = subst (λ (t : ℤ). AllByRecursion (λ r. r.end <ℤ t) (take i rs)) z c.count_ending-count.ensures.before in
    let own : c.get.result.start <ℤ c.args.t = grind (arith, ints, c.lt.ensures, c.if-lt.true) in
    front_more (λ r. r.start <ℤ c.args.t) rs i c.get.result (omega (arith, c.if-count-len.true, c.len.ensures)) c.get.ensures own (front_started c.args.t rs i c.requires before)

pub returns-then-lt-clause-left : goal.returns-then-lt-clause-left
returns-then-lt-clause-left c =
    let rs = c.args.ranges.now.spans in
    let i = c.count_ending-count.result in
    let low : i < length rs = omega (arith, c.if-count-len.true, c.len.ensures) in
    let z : (c.args.t -ℤ c.zero.result) ≡ c.args.t = omega (arith, ints, c.zero.ensures) in
    let after = subst (λ (t : ℤ). AllByRecursion (λ r. t ≤ℤ r.end) (drop i rs)) z c.count_ending-count.ensures.after in
    let ends : c.args.t ≤ℤ c.get.result.end = first_of_back (λ r. c.args.t ≤ℤ r.end) rs i c.get.result low c.get.ensures after in
    each_so (IsBehind c.get.result.end) (λ r. c.args.t ≤ℤ r.start) _ (λ r h. let far = h.0 in omega (arith, ints)) (behind_place rs i c.get.result c.requires low c.get.ensures)

pub returns-else-count-len-clause-started : goal.returns-else-count-len-clause-started
returns-else-count-len-clause-started c =
    let rs = c.args.ranges.now.spans in
    let i = c.count_ending-count.result in
    let z : (c.args.t -ℤ c.zero.result) ≡ c.args.t = omega (arith, ints, c.zero.ensures) in
    front_started c.args.t rs i c.requires (subst (λ (t : ℤ). AllByRecursion (λ r. r.end <ℤ t) (take i rs)) z c.count_ending-count.ensures.before)

pub returns-else-count-len-clause-left : goal.returns-else-count-len-clause-left
returns-else-count-len-clause-left c =
    let rs = c.args.ranges.now.spans in
    let i = c.count_ending-count.result in
    let z : (c.args.t -ℤ c.zero.result) ≡ c.args.t = omega (arith, ints, c.zero.ensures) in
    let after = subst (λ (t : ℤ). AllByRecursion (λ r. t ≤ℤ r.end) (drop i rs)) z c.count_ending-count.ensures.after in
    elim c.else-count-len.branch [
      | else-count-len-via-then-count-len+else-lt w ↦
          let low : i < length rs = omega (arith, w.if-count-len.true, c.len.ensures) in
          let own : c.args.t ≤ℤ w.get.result.start = grind (arith, ints, w.lt.ensures, w.if-lt.false) in
          let ends : c.args.t ≤ℤ w.get.result.end = first_of_back (λ r. c.args.t ≤ℤ r.end) rs i w.get.result low w.get.ensures after in
          back_more (λ r. c.args.t ≤ℤ r.start) rs i w.get.result low w.get.ensures own
          (each_so (IsBehind w.get.result.end) (λ r. c.args.t ≤ℤ r.start) _ (λ r h. let far = h.0 in omega (arith, ints)) (behind_place rs i w.get.result c.requires low w.get.ensures))
      | else-count-len-via-else-count-len w ↦ rw (drop_all i rs (omega (arith, w.if-count-len.false, c.len.ensures))) tt
    ]
