use Rattle.std.proofs.Common.{◌≤ℤ◌, ◌-ℤ◌, ◌<ℤ◌, arith}
use Rattle.std.proofs.lemmas.Int.{ints}
use Rattle.mse_base.proofs.RangeLookUps.{below_more, above_from}
use Rattle.mse_base.proofs.lookup.ending_before.Goals as goal

pub loop-low-preserved-then-is_far_before_time : goal.loop-low-preserved-then-is_far_before_time
loop-low-preserved-then-is_far_before_time c =
    let early : c.index-ranges-middle.result.end <ℤ (c.args.t -ℤ c.args.gap) = grind (arith, ints, c.is_far_before_time.ensures, c.if-is_far_before_time.true) in
    record {
      order = omega arith;
      within = c.loop-low.invariant.within;
      before = below_more c.args.ranges.now _ c.index-ranges-middle.result (c.args.t -ℤ c.args.gap) c.requires (omega arith) c.index-ranges-middle.is early;
      after = c.loop-low.invariant.after;
    }

pub loop-low-preserved : goal.loop-low-preserved
loop-low-preserved c =
    let late : (c.args.t -ℤ c.args.gap) ≤ℤ c.index-ranges-middle.result.end = grind (arith, ints, c.is_far_before_time.ensures, c.if-is_far_before_time.false) in
    record {
      order = omega arith;
      within = omega arith;
      before = c.loop-low.invariant.before;
      after = above_from c.args.ranges.now _ c.index-ranges-middle.result (c.args.t -ℤ c.args.gap) c.requires (omega arith) c.index-ranges-middle.is late;
    }
