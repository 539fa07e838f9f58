use Rattle.std.proofs.Common.{◌≡◌, ◌+◌, ◌-◌, ◌<ℤ◌, ◌≤ℤ◌, ◌-ℤ◌, length, take, drop, ap, subst, arith}
use Rattle.std.specs.List.{AllByRecursion}
use Rattle.mse_base.specs.Rows.{row_items, start}
use Rattle.mse_base.proofs.InRows.{row_within}
use Rattle.mse_base.proofs.span_blocks.SpanBlocks.count_ending.Goals as goal

pub returns-then-b-eq0-clause-after : goal.returns-then-b-eq0-clause-after
returns-then-b-eq0-clause-after c =
    let rows = c.self.inside.blocks.items in
    let all = subst (λ b. AllByRecursion (λ r. (c.args.t -ℤ c.args.gap) ≤ℤ r.end) (drop (start rows b) (row_items rows))) c.if-b-eq0.true c.blocks_ending-b.ensures.after in
    subst (λ w. AllByRecursion (λ r. (c.args.t -ℤ c.args.gap) ≤ℤ r.end) w.spans) c.self.view_is all

pub spans_ending-requires-clause-after : goal.spans_ending-requires-clause-after
spans_ending-requires-clause-after c =
    let rows = c.self.inside.blocks.items in
    let z : c.blocks_ending-b.result ≡ c.blocks_ending-b.result - 1 + 1 = omega (arith, c.if-b-eq0.false) in
    subst (λ b. AllByRecursion (λ r. (c.args.t -ℤ c.args.gap) ≤ℤ r.end) (drop (start rows b) (row_items rows))) z c.blocks_ending-b.ensures.after

pub overflow_add-result : goal.overflow_add-result
overflow_add-result c =
    let rows = c.self.inside.blocks.items in
    let b = c.blocks_ending-b.result - 1 in
    omega (arith, c.self.invariant.spread.count, c.self.invariant.spread.fits, c.start_of.ensures, c.spans_ending.ensures.within, row_within rows b (omega (arith, c.blocks_ending-b.ensures.within, c.if-b-eq0.false)))

pub returns : goal.returns
returns c =
    let rows = c.self.inside.blocks.items in
    let b = c.blocks_ending-b.result - 1 in
    let within = row_within rows b (omega (arith, c.blocks_ending-b.ensures.within, c.if-b-eq0.false)) in
    let n : start rows b + c.spans_ending.result ≡ c.start_of.result + c.spans_ending.result = omega (arith, c.start_of.ensures) in
    let before = subst (λ k. AllByRecursion (λ r. r.end <ℤ (c.args.t -ℤ c.args.gap)) (take k (row_items rows))) n c.spans_ending.ensures.before in
    let after = subst (λ k. AllByRecursion (λ r. (c.args.t -ℤ c.args.gap) ≤ℤ r.end) (drop k (row_items rows))) n c.spans_ending.ensures.after in
    record {
      within = omega (arith, within, c.start_of.ensures, c.spans_ending.ensures.within, ap (λ w. length w.spans) c.self.view_is);
      before = subst (λ w. AllByRecursion (λ r. r.end <ℤ (c.args.t -ℤ c.args.gap)) (take (c.start_of.result + c.spans_ending.result) w.spans)) c.self.view_is before;
      after = subst (λ w. AllByRecursion (λ r. (c.args.t -ℤ c.args.gap) ≤ℤ r.end) (drop (c.start_of.result + c.spans_ending.result) w.spans)) c.self.view_is after;
    }
