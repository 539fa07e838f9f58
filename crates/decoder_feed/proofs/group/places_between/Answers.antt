use Rattle.std.proofs.Common.{arith}
use Rattle.decoder_feed.proofs.Groups.{places_push}
use Rattle.decoder_feed.proofs.group.places_between.Goals as goal

pub loop-place-preserved : goal.loop-place-preserved
loop-place-preserved c = record {
  names = λ fs long. places_push fs c.args.first c.loop-place.place c.loop-place.places.items _ (omega (arith, c.loop-place-test.true)) (omega (arith, c.loop-place.auto.place)) (c.loop-place.invariant.names fs long) c.push_reserved.ensures.items;
  room = omega (arith, c.push_reserved.ensures.len, c.push_reserved.ensures.capacity, c.loop-place.invariant.room);
}
