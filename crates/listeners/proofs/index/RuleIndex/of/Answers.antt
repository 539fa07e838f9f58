use Rattle.std.proofs.Common.{arith}
use Rattle.listeners.proofs.RuleIndex.{places_next}
use Rattle.listeners.proofs.index.RuleIndex.of.Goals as goal

pub loop-place-preserved : goal.loop-place-preserved
loop-place-preserved c m =
    places_next m c.args.rules.now c.loop-place.place c.index-rules-place.result _ _ (omega (arith, c.loop-place-test.true)) c.index-rules-place.is (c.loop-place.invariant m) (c.in_ok-add_rule.ensures m)
