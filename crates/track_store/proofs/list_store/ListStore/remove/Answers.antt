use Rattle.std.proofs.Common.{◌∙◌, List, ap, subst, sym, arith, false}
use Rattle.std.specs.List.{AllByRecursion}
use Rattle.track_store.specs.declared.store.Stored.{Stored}
use Rattle.track_store.specs.Named.{is_named}
use Rattle.track_store.specs.Frames.{IsTimed, ranges_of}
use Rattle.track_store.proofs.ClearedLists.{each-cleared}
use Rattle.track_store.proofs.PlainStore.{listed_cleared}
use Rattle.track_store.proofs.list_store.ListStore.remove.Goals as goal

pub rejoin-requires-clause-timed : goal.rejoin-requires-clause-timed
rejoin-requires-clause-timed c = subst (λ (gs : List Stored). AllByRecursion IsTimed gs) (sym (c.deref.ensures.value ∙ c.clear.ensures.items)) (each-cleared IsTimed false (is_named c.args.named.now) c.self.inside.items.items c.self.invariant.timed)

pub invariant_of-self : goal.invariant_of-self
invariant_of-self c =
    listed_cleared (is_named c.args.named.now) c.self.inside.items.items _ c.self.inside.ranges.spans _ c.self.inside.gap _ _ c.self.invariant c.clear.ensures.items (omega (arith, c.clear.ensures.no_longer)) (c.rejoin.ensures.spans ∙ ap (ranges_of c.self.inside.gap) c.deref.ensures.value) c.rejoin.ensures.room
