use Rattle.std.proofs.Common.{◌+◌, ◌≤◌, ◌∙◌, ap, length, arith}
use Rattle.mse_base.specs.declared.span.Span.{Span}
use Rattle.mse_base.specs.Bridging.{ranges_with}
use Rattle.track_store.proofs.PlainStore.{few_ranges, are_ranges, listed_push}
use Rattle.track_store.proofs.list_store.ListStoreFrameStore.add.Goals as goal

pub add_span-requires-clause-room : goal.add_span-requires-clause-room
add_span-requires-clause-room c =
    let few = few_ranges c.self.inside.gap c.self.inside.items.items c.self.inside.ranges.spans c.self.invariant.joined in
    let room = rw (← c.self.view_is) at c.requires.room in
    omega (arith, c.self.inside.items.ok.0)

pub add_span-requires-clause-ranges : goal.add_span-requires-clause-ranges
add_span-requires-clause-ranges c = are_ranges c.self.inside.gap c.self.inside.items.items c.self.inside.ranges.spans c.self.invariant.gap_from_zero c.self.invariant.joined

pub invariant_of-self : goal.invariant_of-self
invariant_of-self c =
    let fs = c.self.inside.items.items in
    let x = c.args.frame in
    let older = rw (← c.self.view_is) at c.requires.later in
    let small = rw (← c.self.view_is) at c.requires.small in
    let room = rw (← c.self.view_is) at c.requires.room in
    let next : length fs + 1 ≤ c.add_span.new.self.spare + length c.add_span.new.self.spans = omega (arith, c.self.inside.items.ok.0, c.add_span.ensures.room) in
    listed_push fs _ c.self.inside.ranges.spans _ c.self.inside.gap _ _ x c.self.invariant c.push_reserved.ensures.items (c.add_span.ensures.spans ∙ ap (λ (s : Span). ranges_with c.self.inside.gap c.self.inside.ranges.spans s) c.interval.ensures) next older (c.requires.dur_not_negative, c.requires.end_is_tick) small
