use Rattle.std.proofs.Common.{◌≡◌, ◌≤ℤ◌, ◌-ℤ◌, ◌<ℤ◌, length, drop, subst, arith}
use Rattle.std.specs.List.{AllByRecursion}
use Rattle.std.proofs.lemmas.Int.{ints}
use Rattle.mse_base.specs.Rows.{row_items, start}
use Rattle.mse_base.proofs.RangeLookUps.{above_from}
use Rattle.mse_base.proofs.SpanEnds.{below_row, above_all}
use Rattle.mse_base.proofs.span_blocks.blocks_ending.Goals as goal

pub loop-low-init : goal.loop-low-init
loop-low-init c =
    let n : c.len-high.result ≡ length c.args.blocks.now.items = omega (arith, c.len-high.ensures, c.args.blocks.now.ok.0) in
    record {
      order = omega arith;
      within = omega (arith, n);
      before = λ h. absurd (omega arith);
      after = above_all c.args.blocks.now.items c.len-high.result (c.args.t -ℤ c.args.gap) n;
    }

pub loop-low-preserved-then-is_far_before_time : goal.loop-low-preserved-then-is_far_before_time
loop-low-preserved-then-is_far_before_time c =
    let early : c.first_of.result.end <ℤ (c.args.t -ℤ c.args.gap) = grind (arith, ints, c.is_far_before_time.ensures, c.if-is_far_before_time.true) in
    record {
      order = omega arith;
      within = c.loop-low.invariant.within;
      before = λ _. below_row c.args.blocks.now.items _ c.first_of.result (c.args.t -ℤ c.args.gap) c.requires.normalized c.first_of.ensures.within c.first_of.ensures.value early;
      after = c.loop-low.invariant.after;
    }

pub loop-low-preserved : goal.loop-low-preserved
loop-low-preserved c =
    let rows = c.args.blocks.now.items in
    let late : (c.args.t -ℤ c.args.gap) ≤ℤ c.first_of.result.end = grind (arith, ints, c.is_far_before_time.ensures, c.if-is_far_before_time.false) in
    record {
      order = omega arith;
      within = omega arith;
      before = c.loop-low.invariant.before;
      after = above_from (row_items rows) _ c.first_of.result (c.args.t -ℤ c.args.gap) c.requires.normalized c.first_of.ensures.within c.first_of.ensures.value late;
    }

pub returns : goal.returns
returns c =
    let rows = c.args.blocks.now.items in
    let z : c.loop-low.high ≡ c.loop-low.low = omega (arith, c.loop-low.invariant.order, c.loop-low-test.false) in
    record {
      within = omega (arith, z, c.loop-low.invariant.within);
      before = c.loop-low.invariant.before;
      after = subst (λ k. AllByRecursion (λ r. (c.args.t -ℤ c.args.gap) ≤ℤ r.end) (drop (start rows k) (row_items rows))) z c.loop-low.invariant.after;
    }
