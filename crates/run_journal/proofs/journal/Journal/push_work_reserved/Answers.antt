use Rattle.std.proofs.Common.{arith}
use Rattle.run_journal.proofs.journal.Journal.push_work_reserved.Goals as goal

pub invariant_of-self : goal.invariant_of-self
invariant_of-self c = record {
  places_inside = c.push_reserved.ensures.place_inside c.self.inside.calls.list c.self.inside.pieces.items c.self.invariant.places_inside tt;
  calls_room = omega (arith, c.self.invariant.calls_room, c.push_reserved.ensures.spare);
  pieces_room = omega (arith, c.self.invariant.pieces_room, c.push_reserved.ensures.spare);
}
