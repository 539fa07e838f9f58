use Rattle.std.proofs.Common.{◌∙◌, List, length, refl, subst, sym, ap, arith}
use Rattle.std.specs.List.{AllByRecursion}
use Rattle.std.proofs.lemmas.Option.{slice_get_read}
use Rattle.std.proofs.lemmas.List.{length-set}
use Rattle.mse_base.specs.Time.{IsTick}
use Rattle.track_store.specs.declared.store.Stored.{Stored}
use Rattle.track_store.specs.Frames.{IsTimed, ranges_of, with_dur}
use Rattle.track_store.proofs.ClearedLists.{shortened_at}
use Rattle.track_store.proofs.PlainStore.{timed_cut, listed_cut}
use Rattle.track_store.proofs.list_store.ListStoreFrameStore.cut.Goals as goal

pub rejoin-requires-clause-timed : goal.rejoin-requires-clause-timed
rejoin-requires-clause-timed c =
    let fs = c.self.inside.items.items in
    let within = rw (← c.self.view_is) at c.requires.in_range in
    let x = c.index_mut-stored.result.now in
    let at = slice_get_read fs (length fs) c.args.i x refl within c.index_mut-stored.ensures.value in
    let less = rw (← c.self.view_is, at) at c.requires.no_longer in
    let begins : IsTick x.frame.pts = c.get-begins.ensures.is_tick in
    subst (λ (gs : List Stored). AllByRecursion IsTimed gs) (sym c.deref.ensures.value) (timed_cut fs c.args.i x c.args.dur c.self.invariant.timed at begins less.0 less.1)

pub rejoin-requires-clause-room : goal.rejoin-requires-clause-room
rejoin-requires-clause-room c =
    let fs = c.self.inside.items.items in
    let same = ap length c.deref.ensures.value ∙ length-set fs c.args.i (with_dur c.args.dur c.index_mut-stored.result.now) in
    omega (arith, same, c.self.invariant.roomy)

pub invariant_of-self : goal.invariant_of-self
invariant_of-self c =
    let fs = c.self.inside.items.items in
    let within = rw (← c.self.view_is) at c.requires.in_range in
    let x = c.index_mut-stored.result.now in
    let at = slice_get_read fs (length fs) c.args.i x refl within c.index_mut-stored.ensures.value in
    let less = rw (← c.self.view_is, at) at c.requires.no_longer in
    let begins : IsTick x.frame.pts = c.get-begins.ensures.is_tick in
    listed_cut fs c.self.inside.ranges.spans _ c.self.inside.gap c.args.dur _ _ c.args.i x c.self.invariant at (timed_cut fs c.args.i x c.args.dur c.self.invariant.timed at begins less.0 less.1) (c.rejoin.ensures.spans ∙ ap (ranges_of c.self.inside.gap) c.deref.ensures.value) c.rejoin.ensures.room

pub returns-clause-frames : goal.returns-clause-frames
returns-clause-frames c =
    let fs = c.self.inside.items.items in
    let within = rw (← c.self.view_is) at c.requires.in_range in
    let x = c.index_mut-stored.result.now in
    let at = slice_get_read fs (length fs) c.args.i x refl within c.index_mut-stored.ensures.value in
    rw (← c.self.view_is, at) (shortened_at fs c.args.i x c.args.dur c.self.invariant.kept.ascending at)
