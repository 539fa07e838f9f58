use Rattle.std.proofs.Common.{◌≡◌, ◌∙◌, ◌<◌, length, slice_get, refl, ap, arith, sym, subst}
use Rattle.std.specs.Prelude.{option_map}
use Rattle.std.proofs.lemmas.Option.{slice_get_past, slice_get_read}
use Rattle.run_journal.specs.EntryPlaces.{entry_at, entries_at}
use Rattle.run_journal.specs.PlacesView.{PlacesView}
use Rattle.run_journal.proofs.CountedPlaces.{spread-count}
use Rattle.run_journal.proofs.places.Places.get.Goals as goal

pub returns-then-self-i-clause-entry : goal.returns-then-self-i-clause-entry
returns-then-self-i-clause-entry c = λ calls pieces.
    rw (← c.self.view_is) (sym (slice_get_past (entries_at calls pieces c.self.inside.list.items) c.args.i (omega (arith, spread-count (entry_at calls pieces) c.self.inside.list.items, c.self.invariant.counted.sum, c.if-self-i.true))))

pub returns-clause-entry : goal.returns-clause-entry
returns-clause-entry c = λ calls pieces.
    let list = c.self.inside.list.items in
    let at = subst (λ (v : PlacesView). slice_get (entries_at calls pieces v.list) c.args.i ≡ option_map (entry_at calls pieces) (slice_get v.list c.place_of.result)) (sym c.self.view_is) (c.place_of.ensures.entry calls pieces) in
    let inside = subst (λ (v : PlacesView). c.place_of.result < length v.list) (sym c.self.view_is) c.place_of.ensures.inside in
    rw (← c.self.view_is) (sym (at ∙ ap (option_map (entry_at calls pieces)) (slice_get_read list (length list) c.place_of.result c.index.result.now refl inside c.index.ensures)))
