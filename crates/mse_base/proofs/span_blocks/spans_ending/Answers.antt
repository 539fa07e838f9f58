use Rattle.std.proofs.Common.{◌≡◌, ◌+◌, ◌≤ℤ◌, ◌-ℤ◌, ◌<ℤ◌, drop, subst, arith}
use Rattle.std.specs.List.{AllByRecursion}
use Rattle.std.proofs.lemmas.Int.{ints}
use Rattle.mse_base.specs.Rows.{row_items, start}
use Rattle.mse_base.proofs.InRows.{filled_row}
use Rattle.mse_base.proofs.SpanEnds.{below_in, above_in, above_row}
use Rattle.mse_base.proofs.span_blocks.spans_ending.Goals as goal

pub loop-low-init : goal.loop-low-init
loop-low-init c =
    let rows = c.args.blocks.now.items in
    let some = filled_row rows c.args.b c.requires.filled c.requires.block in
    record {
      order = omega (arith, some, c.len_at-high.ensures.value);
      within = omega (arith, c.len_at-high.ensures.value);
      before = c.requires.before;
      after = above_row rows c.args.b c.len_at-high.result (c.args.t -ℤ c.args.gap) c.requires.block c.len_at-high.ensures.value c.requires.after;
    }

pub loop-low-preserved-then-is_far_before_time : goal.loop-low-preserved-then-is_far_before_time
loop-low-preserved-then-is_far_before_time c =
    let early : c.span_at.result.end <ℤ (c.args.t -ℤ c.args.gap) = grind (arith, ints, c.is_far_before_time.ensures, c.if-is_far_before_time.true) in
    record {
      order = omega arith;
      within = c.loop-low.invariant.within;
      before = below_in c.args.blocks.now.items c.args.b _ c.span_at.result (c.args.t -ℤ c.args.gap) c.requires.normalized c.requires.block (omega (arith, c.loop-low.invariant.within)) c.span_at.ensures early;
      after = c.loop-low.invariant.after;
    }

pub loop-low-preserved : goal.loop-low-preserved
loop-low-preserved c =
    let late : (c.args.t -ℤ c.args.gap) ≤ℤ c.span_at.result.end = grind (arith, ints, c.is_far_before_time.ensures, c.if-is_far_before_time.false) in
    record {
      order = omega arith;
      within = omega (arith, c.loop-low.invariant.within);
      before = c.loop-low.invariant.before;
      after = above_in c.args.blocks.now.items c.args.b _ c.span_at.result (c.args.t -ℤ c.args.gap) c.requires.normalized c.requires.block (omega (arith, c.loop-low.invariant.within)) c.span_at.ensures late;
    }

pub returns : goal.returns
returns c =
    let rows = c.args.blocks.now.items in
    let z : c.loop-low.high ≡ c.loop-low.low = omega (arith, c.loop-low.invariant.order, c.loop-low-test.false) in
    record {
      within = omega (arith, z, c.loop-low.invariant.within);
      before = c.loop-low.invariant.before;
      after = subst (λ k. AllByRecursion (λ r. (c.args.t -ℤ c.args.gap) ≤ℤ r.end) (drop (start rows c.args.b + k) (row_items rows))) z c.loop-low.invariant.after;
    }
