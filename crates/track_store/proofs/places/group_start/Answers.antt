use Rattle.std.proofs.Common.{◌∙◌, sym, arith, true, false}
use Rattle.track_store.proofs.LastPlaces.{last_place_back}
use Rattle.track_store.proofs.places.group_start.Goals as goal

pub returns-then-frames-place : goal.returns-then-frames-place
returns-then-frames-place c =
    sym (last_place_back (λ f. f.frame.sync) c.args.frames.now c.loop-place.place c.index-frames-place.result true (omega (arith, c.loop-place-test.true)) c.loop-place.invariant.in_range c.if-frames-place.true) ∙ c.loop-place.invariant.passed

pub loop-place-preserved : goal.loop-place-preserved
loop-place-preserved c = record {
  in_range = omega (arith, c.loop-place.invariant.in_range);
  passed = sym (last_place_back (λ f. f.frame.sync) c.args.frames.now c.loop-place.place c.index-frames-place.result false (omega (arith, c.loop-place-test.true)) c.loop-place.invariant.in_range c.if-frames-place.false) ∙ c.loop-place.invariant.passed;
}
