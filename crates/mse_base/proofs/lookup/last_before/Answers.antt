use Rattle.std.proofs.Common.{◌∙◌, ◌-◌, take, sym, ap, arith}
use Rattle.mse_base.specs.Spans.{last_of}
use Rattle.mse_base.proofs.Beside.{started_front, last_front}
use Rattle.mse_base.proofs.lookup.last_before.Goals as goal

pub returns-then-count-eq0 : goal.returns-then-count-eq0
returns-then-count-eq0 c =
    let rs = c.args.ranges.now.spans in
    let counted = c.count_started-count.ensures in
    sym (ap last_of (started_front c.args.t rs c.count_started-count.result counted.started counted.left ∙ ap (λ n. take n rs) c.if-count-eq0.true))

pub returns-else-count-eq0 : goal.returns-else-count-eq0
returns-else-count-eq0 c =
    let rs = c.args.ranges.now.spans in
    let n = c.count_started-count.result in
    let counted = c.count_started-count.ensures in
    let front = last_front rs n (n - 1) c.get.result counted.within (omega (arith, c.if-count-eq0.false)) c.get.ensures in
    front ∙ sym (ap last_of (started_front c.args.t rs n counted.started counted.left))
