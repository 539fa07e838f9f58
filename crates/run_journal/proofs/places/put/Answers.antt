use Rattle.std.proofs.Common.{◌≡◌, ◌∙◌, ◌+◌, ◌-◌, ◌++◌, ◌∷◌, [], ℕ, List, Option, Some, length, slice_get, set, ap, sym, subst}
use Rattle.std.proofs.lemmas.List.Elements.{All-push, All-same}
use Rattle.run_journal.specs.declared.entry_place.EntryPlace.{EntryPlace}
use Rattle.run_journal.specs.declared.entry_place.EntryPlace.TheVariants.{Work}
use Rattle.run_journal.specs.EntryPlaces.{entry_at, entries_at, IsPlaceInside}
use Rattle.run_journal.specs.PlacesView.{end_at, run_end_of, IsRunWith, AreCounted}
use Rattle.run_journal.proofs.CountedPlaces.{counted-joined, counted-pushed, entries-joined}
use Rattle.run_journal.proofs.places.put.Goals as goal

pub returns-in-Some-clause-counted : goal.returns-in-Some-clause-counted
returns-in-Some-clause-counted c =
    let list = c.args.list.now.items in
    let w = c.in-Some.ensures.run in
    let last : EntryPlace = Work w.k w.count in
    let at : slice_get list (length list - 1) ≡ Some last = sym (c.copied-last.ensures ∙ c.last.ensures.value ∙ ap (λ (ks : List EntryPlace). slice_get ks (length ks - 1)) c.deref.ensures.value) ∙ w.last_is in
    let run : IsRunWith (Some last) c.args.place c.in-Some.whole = subst (λ (o : Option EntryPlace). IsRunWith o c.args.place c.in-Some.whole) w.last_is w in
    let index : c.len-index.result - 1 ≡ length list - 1 = ap (λ (k : ℕ). k - 1) (c.len-index.ensures ∙ c.args.list.now.ok.0) in
    subst (λ (i : ℕ). AreCounted (set list i c.in-Some.whole) c.args.run_ends.now.items (c.args.len + 1)) (sym index)
    (counted-joined list c.args.run_ends.now.items c.args.len last c.args.place c.in-Some.whole c.requires.counted at run)

pub returns-in-Some-clause-entries : goal.returns-in-Some-clause-entries
returns-in-Some-clause-entries c = λ calls pieces.
    let list = c.args.list.now.items in
    let w = c.in-Some.ensures.run in
    let last : EntryPlace = Work w.k w.count in
    let at : slice_get list (length list - 1) ≡ Some last = sym (c.copied-last.ensures ∙ c.last.ensures.value ∙ ap (λ (ks : List EntryPlace). slice_get ks (length ks - 1)) c.deref.ensures.value) ∙ w.last_is in
    let run : IsRunWith (Some last) c.args.place c.in-Some.whole = subst (λ (o : Option EntryPlace). IsRunWith o c.args.place c.in-Some.whole) w.last_is w in
    let index : c.len-index.result - 1 ≡ length list - 1 = ap (λ (k : ℕ). k - 1) (c.len-index.ensures ∙ c.args.list.now.ok.0) in
    subst (λ (i : ℕ). entries_at calls pieces (set list i c.in-Some.whole) ≡ entries_at calls pieces list ++ entry_at calls pieces c.args.place ∷ []) (sym index)
    (entries-joined calls pieces list last c.args.place c.in-Some.whole at run)

pub returns-clause-counted : goal.returns-clause-counted
returns-clause-counted c =
    let list = c.args.list.now.items in
    let ends = c.args.run_ends.now.items in
    let at : c.copied-last.result ≡ slice_get list (length list - 1) = c.copied-last.ensures ∙ c.last.ensures.value ∙ ap (λ (ks : List EntryPlace). slice_get ks (length ks - 1)) c.deref.ensures.value in
    rw c.push_reserved.ensures.items
    (counted-pushed list ends c.close_run.new.run_ends.items c.args.len c.args.place c.requires.counted c.requires.single
    (c.close_run.ensures.items
    ∙ ap (λ (o : Option EntryPlace). ends ++ run_end_of o (end_at c.args.len c.len-places.result)) at
    ∙ ap (λ (k : ℕ). ends ++ run_end_of (slice_get list (length list - 1)) (end_at c.args.len k)) (c.len-places.ensures ∙ c.args.list.now.ok.0)))

pub returns-clause-place_inside : goal.returns-clause-place_inside
returns-clause-place_inside c = λ calls pieces all at.
    All-same (IsPlaceInside calls pieces) _ _ c.push_reserved.ensures.items (All-push (IsPlaceInside calls pieces) c.args.list.now.items c.args.place all at)
