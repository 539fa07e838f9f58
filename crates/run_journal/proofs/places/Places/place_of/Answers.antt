use Rattle.std.proofs.Common.{rules, of_calls, ◌≡◌, ◌∙◌, ◌<◌, ℕ, leb, slice_get, sym, subst, arith}
use Rattle.std.specs.Prelude.{option_map, sum_by}
use Rattle.std.proofs.lemmas.Fn.{always_returns_same}
use Rattle.std.proofs.lemmas.List.Sorted.{IsPartitionedBy-leb}
use Rattle.run_journal.specs.declared.entry_place.EntryPlace.{EntryPlace}
use Rattle.run_journal.specs.declared.places.RunEnd.{RunEnd}
use Rattle.run_journal.specs.EntryPlaces.{count_of, entry_at, entries_at}
use Rattle.run_journal.specs.PlacesView.{PlacesView}
use Rattle.run_journal.proofs.CountedPlaces.{placed-by}
use Rattle.run_journal.proofs.places.Places.place_of.Goals as goal

pub place_between-requires-clause-entries : goal.place_between-requires-clause-entries
place_between-requires-clause-entries c =
    let here = placed-by (λ (p : EntryPlace). p) c.self.inside.list.items c.self.inside.run_ends.items c.deref.result.now c.deref-2.result.now c.deref-3.result.now c.self.inside.len c.partition_point-count.result c.args.i c.len.result c.begin_of-begin.result c.stop_of-stop.result
    c.self.invariant.counted (subst (λ (v : PlacesView). c.args.i < sum_by count_of v.list) (sym c.self.view_is) c.requires) c.deref.ensures.value c.deref-2.ensures.value c.deref-3.ensures.value (c.len.ensures ∙ c.self.inside.list.ok.0) c.partition_point-count.ensures.bound
    (λ up. c.partition_point-count.ensures.partitioned (λ (r : RunEnd). leb r.entries c.args.i) (always_returns_same _ _ _ (λ a r f k. search (rules, of_calls))) (IsPartitionedBy-leb (λ (r : RunEnd). r.entries) c.deref.result.now c.args.i up))
    c.begin_of-begin.ensures c.stop_of-stop.ensures in
    here.begun

pub place_between-requires-clause-places : goal.place_between-requires-clause-places
place_between-requires-clause-places c =
    let here = placed-by (λ (p : EntryPlace). p) c.self.inside.list.items c.self.inside.run_ends.items c.deref.result.now c.deref-2.result.now c.deref-3.result.now c.self.inside.len c.partition_point-count.result c.args.i c.len.result c.begin_of-begin.result c.stop_of-stop.result
    c.self.invariant.counted (subst (λ (v : PlacesView). c.args.i < sum_by count_of v.list) (sym c.self.view_is) c.requires) c.deref.ensures.value c.deref-2.ensures.value c.deref-3.ensures.value (c.len.ensures ∙ c.self.inside.list.ok.0) c.partition_point-count.ensures.bound
    (λ up. c.partition_point-count.ensures.partitioned (λ (r : RunEnd). leb r.entries c.args.i) (always_returns_same _ _ _ (λ a r f k. search (rules, of_calls))) (IsPartitionedBy-leb (λ (r : RunEnd). r.entries) c.deref.result.now c.args.i up))
    c.begin_of-begin.ensures c.stop_of-stop.ensures in
    here.goes

pub returns-clause-inside : goal.returns-clause-inside
returns-clause-inside c =
    let here = placed-by (λ (p : EntryPlace). p) c.self.inside.list.items c.self.inside.run_ends.items c.deref.result.now c.deref-2.result.now c.deref-3.result.now c.self.inside.len c.partition_point-count.result c.args.i c.len.result c.begin_of-begin.result c.stop_of-stop.result
    c.self.invariant.counted (subst (λ (v : PlacesView). c.args.i < sum_by count_of v.list) (sym c.self.view_is) c.requires) c.deref.ensures.value c.deref-2.ensures.value c.deref-3.ensures.value (c.len.ensures ∙ c.self.inside.list.ok.0) c.partition_point-count.ensures.bound
    (λ up. c.partition_point-count.ensures.partitioned (λ (r : RunEnd). leb r.entries c.args.i) (always_returns_same _ _ _ (λ a r f k. search (rules, of_calls))) (IsPartitionedBy-leb (λ (r : RunEnd). r.entries) c.deref.result.now c.args.i up))
    c.begin_of-begin.ensures c.stop_of-stop.ensures in
    rw (← c.self.view_is) (omega (arith, c.place_between.ensures, here.at, here.inside))

pub returns-clause-entry : goal.returns-clause-entry
returns-clause-entry c = λ calls pieces.
    let here = placed-by (entry_at calls pieces) c.self.inside.list.items c.self.inside.run_ends.items c.deref.result.now c.deref-2.result.now c.deref-3.result.now c.self.inside.len c.partition_point-count.result c.args.i c.len.result c.begin_of-begin.result c.stop_of-stop.result
    c.self.invariant.counted (subst (λ (v : PlacesView). c.args.i < sum_by count_of v.list) (sym c.self.view_is) c.requires) c.deref.ensures.value c.deref-2.ensures.value c.deref-3.ensures.value (c.len.ensures ∙ c.self.inside.list.ok.0) c.partition_point-count.ensures.bound
    (λ up. c.partition_point-count.ensures.partitioned (λ (r : RunEnd). leb r.entries c.args.i) (always_returns_same _ _ _ (λ a r f k. search (rules, of_calls))) (IsPartitionedBy-leb (λ (r : RunEnd). r.entries) c.deref.result.now c.args.i up))
    c.begin_of-begin.ensures c.stop_of-stop.ensures in
    let same : here.place ≡ c.place_between.result = omega (arith, c.place_between.ensures, here.at) in
    rw (← c.self.view_is) (subst (λ (k : ℕ). slice_get (entries_at calls pieces c.self.inside.list.items) c.args.i ≡ option_map (entry_at calls pieces) (slice_get c.self.inside.list.items k)) same here.entry)
