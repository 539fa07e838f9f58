use Rattle.std.proofs.Common.{sym, subst}
use Rattle.std.specs.List.{All}
use Rattle.run_journal.specs.EntryPlaces.{IsPlaceInside}
use Rattle.run_journal.specs.PlacesView.{PlacesView}
use Rattle.run_journal.proofs.places.Places.push_reserved.Goals as goal

pub returns-clause-place_inside : goal.returns-clause-place_inside
returns-clause-place_inside c = λ calls pieces all at.
    c.put.ensures.place_inside calls pieces (subst (λ (v : PlacesView). All (IsPlaceInside calls pieces) v.list) (sym c.self.view_is) all) at
