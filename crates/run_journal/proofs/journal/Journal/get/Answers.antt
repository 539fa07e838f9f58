use Rattle.run_journal.proofs.journal.Journal.get.Goals as goal

pub entry_ref-requires : goal.entry_ref-requires
entry_ref-requires c = rw (c.deref.ensures.value) (c.in_ok-place.ensures.place_inside c.self.inside.calls.list c.self.inside.pieces.items c.self.invariant.places_inside)
