use Rattle.std.proofs.Common.{◌∙◌, ◌++◌, ◌∷◌, [], List, ap, arith}
use Rattle.mse_calls.specs.declared.entry.Entry.{Entry}
use Rattle.run_journal.specs.EntryPlaces.{entry_at, entries_at}
use Rattle.run_journal.proofs.GrowingPlaces.{entries_stay, insides_stay}
use Rattle.run_journal.proofs.journal.Journal.push_reserved.Goals as goal

pub invariant_of-self : goal.invariant_of-self
invariant_of-self c =
    let calls = c.self.inside.calls.list in
    let pieces = c.self.inside.pieces.items in
    let more = c.keep-place.new.calls.list in
    let others = c.keep-place.new.pieces.items in
    record {
      places_inside = c.push_reserved.ensures.place_inside more others
          (insides_stay calls more pieces others c.self.inside.places.list c.keep-place.ensures.calls_extended c.keep-place.ensures.pieces_extended c.self.invariant.places_inside) c.keep-place.ensures.place_inside;
      calls_room = omega (arith, c.self.invariant.calls_room, c.keep-place.ensures.calls_room, c.push_reserved.ensures.spare);
      pieces_room = omega (arith, c.self.invariant.pieces_room, c.keep-place.ensures.pieces_len, c.keep-place.ensures.pieces_room, c.push_reserved.ensures.spare);
    }

pub returns-clause-entries : goal.returns-clause-entries
returns-clause-entries c =
    let calls = c.self.inside.calls.list in
    let pieces = c.self.inside.pieces.items in
    let more = c.keep-place.new.calls.list in
    let others = c.keep-place.new.pieces.items in
    let list = c.self.inside.places.list in
    rw (← c.self.view_is)
    (c.push_reserved.ensures.entries more others
    ∙ ap (λ (es : List Entry). es ++ entry_at more others c.keep-place.result ∷ [])
    (entries_stay calls more pieces others list c.keep-place.ensures.calls_extended c.keep-place.ensures.pieces_extended c.self.invariant.places_inside)
    ∙ ap (λ (x : Entry). entries_at calls pieces list ++ x ∷ []) c.keep-place.ensures.entry)
