use Rattle.std.proofs.Common.{arith}
use Rattle.source_state.proofs.ActivePlaces.{without_le, without_length}
use Rattle.source_state.proofs.source.Source.remove_buffer.Goals as goal

pub invariant_of-self : goal.invariant_of-self
invariant_of-self c =
    rw (c.remove_number.ensures.items, c.remove_number-2.ensures.items, c.remove_number-2.ensures.capacity)
    (omega (arith, without_le c.self.inside.listed.items c.self.inside.active.items c.args.k, without_length c.self.inside.active.items c.args.k, c.self.invariant))
