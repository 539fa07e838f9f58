use Rattle.std.proofs.Common.{◌≡◌, ◌<◌, ◌≤ℤ◌, ◌<ℤ◌, ◌-ℤ◌, ℤ, length, take, drop, subst, arith}
use Rattle.std.specs.List.{AllByRecursion}
use Rattle.std.proofs.lemmas.Int.{ints}
use Rattle.std.proofs.lemmas.List.{drop_all}
use Rattle.mse_base.proofs.Beside.{IsBehind, each_so, front_more, back_more, first_of_back, behind_place}
use Rattle.mse_base.proofs.lookup.count_ended.Goals as goal
use Rattle.mse_base.proofs.lookup.count_ended.Goals.{else-count-len-via-then-count-len+else-eq, else-count-len-via-else-count-len}

pub returns-then-eq-clause-ended : goal.returns-then-eq-clause-ended
returns-then-eq-clause-ended c =
    let rs = c.args.ranges.now.spans in
    let i = c.count_ending-count.result in
    let z : (c.args.t -ℤ c.zero.result) ≡ c.args.t = omega (arith, ints, c.zero.ensures) in
    let before = subst (λ (t : ℤ). AllByRecursion (λ r. r.end <ℤ t) (take i rs)) z c.count_ending-count.ensures.before in
    let own : c.get.result.end ≤ℤ c.args.t = grind (arith, ints, c.eq.ensures, c.if-eq.true) in
    front_more (λ r. r.end ≤ℤ c.args.t) rs i c.get.result (omega (arith, c.if-count-len.true, c.len.ensures)) c.get.ensures own (each_so (λ r. r.end <ℤ c.args.t) (λ r. r.end ≤ℤ c.args.t) (take i rs) (λ r h. omega (arith, ints)) before)

pub returns-then-eq-clause-left : goal.returns-then-eq-clause-left
returns-then-eq-clause-left c =
    let rs = c.args.ranges.now.spans in
    let i = c.count_ending-count.result in
    let own : c.args.t ≤ℤ c.get.result.end = grind (arith, ints, c.eq.ensures, c.if-eq.true) in
    each_so (IsBehind c.get.result.end) (λ r. c.args.t <ℤ r.end) _ (λ r h. let far = h.1 in omega (arith, ints)) (behind_place rs i c.get.result c.requires (omega (arith, c.if-count-len.true, c.len.ensures)) c.get.ensures)

pub returns-else-count-len-clause-ended : goal.returns-else-count-len-clause-ended
returns-else-count-len-clause-ended c =
    let rs = c.args.ranges.now.spans in
    let i = c.count_ending-count.result in
    let z : (c.args.t -ℤ c.zero.result) ≡ c.args.t = omega (arith, ints, c.zero.ensures) in
    let before = subst (λ (t : ℤ). AllByRecursion (λ r. r.end <ℤ t) (take i rs)) z c.count_ending-count.ensures.before in
    each_so (λ r. r.end <ℤ c.args.t) (λ r. r.end ≤ℤ c.args.t) (take i rs) (λ r h. omega (arith, ints)) before

pub returns-else-count-len-clause-left : goal.returns-else-count-len-clause-left
returns-else-count-len-clause-left c =
    let rs = c.args.ranges.now.spans in
    let i = c.count_ending-count.result in
    let z : (c.args.t -ℤ c.zero.result) ≡ c.args.t = omega (arith, ints, c.zero.ensures) in
    let after = subst (λ (t : ℤ). AllByRecursion (λ r. t ≤ℤ r.end) (drop i rs)) z c.count_ending-count.ensures.after in
    elim c.else-count-len.branch [
      | else-count-len-via-then-count-len+else-eq w ↦
          let low : i < length rs = omega (arith, w.if-count-len.true, c.len.ensures) in
          let not_before : c.args.t ≤ℤ w.get.result.end = first_of_back (λ r. c.args.t ≤ℤ r.end) rs i w.get.result low w.get.ensures after in
          let own : c.args.t <ℤ w.get.result.end = grind (arith, ints, not_before, w.eq.ensures, w.if-eq.false) in
          back_more (λ r. c.args.t <ℤ r.end) rs i w.get.result low w.get.ensures own
          (each_so (IsBehind w.get.result.end) (λ r. c.args.t <ℤ r.end) _ (λ r h. let far = h.1 in omega (arith, ints)) (behind_place rs i w.get.result c.requires low w.get.ensures))
      | else-count-len-via-else-count-len w ↦ rw (drop_all i rs (omega (arith, w.if-count-len.false, c.len.ensures))) tt
    ]
