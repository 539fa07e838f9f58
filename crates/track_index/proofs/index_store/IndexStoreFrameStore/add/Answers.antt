use Rattle.std.proofs.Common.{◌∙◌, ◌+◌, ◌∷◌, [], ◌≤◌, length, arith, ap, ℕ, length-append}
use Rattle.mse_base.specs.declared.span.Span.{Span}
use Rattle.mse_base.specs.Bridging.{ranges_with}
use Rattle.mse_base.specs.Rows.{row_items}
use Rattle.track_store.proofs.PlainStore.{few_ranges, are_ranges}
use Rattle.track_index.specs.declared.entry.OrderEntry.{OrderEntry}
use Rattle.track_index.specs.Order.{entries_with, span_of}
use Rattle.track_index.proofs.Keys.{keyed_of}
use Rattle.track_index.proofs.KeptStore.{indexed_added}
use Rattle.track_index.proofs.Rooms.{room_each, room_kept}
use Rattle.track_index.proofs.index_store.IndexStoreFrameStore.add.Goals as goal

pub add_span-requires-clause-room : goal.add_span-requires-clause-room
add_span-requires-clause-room c =
    let few = few_ranges c.self.inside.gap (row_items c.self.inside.items.rows) c.self.inside.ranges.spans c.self.invariant.joined in
    let room = room_each _ _ _ _ _ (rw (← c.self.view_is) at c.requires.room) in
    omega (arith, few, room.ranges)

pub add_span-requires-clause-ranges : goal.add_span-requires-clause-ranges
add_span-requires-clause-ranges c = are_ranges c.self.inside.gap (row_items c.self.inside.items.rows) c.self.inside.ranges.spans c.self.invariant.gap_from_zero c.self.invariant.joined

pub put-requires-clause-room : goal.put-requires-clause-room
put-requires-clause-room c = let room = room_each _ _ _ _ _ (rw (← c.self.view_is) at c.requires.room) in room.order

pub push-requires : goal.push-requires
push-requires c = let room = room_each _ _ _ _ _ (rw (← c.self.view_is) at c.requires.room) in room.items

pub put-requires-clause-keyed : goal.put-requires-clause-keyed
put-requires-clause-keyed c = keyed_of (row_items c.self.inside.order.rows) (row_items c.self.inside.items.rows) c.self.invariant.in_order c.self.invariant.kept.ascending

pub invariant_of-self : goal.invariant_of-self
invariant_of-self c =
    let fs = row_items c.self.inside.items.rows in
    let os = row_items c.self.inside.order.rows in
    let x = c.args.frame in
    let older = rw (← c.self.view_is) at c.requires.later in
    let small = rw (← c.self.view_is) at c.requires.small in
    let room = room_each _ _ _ _ _ (rw (← c.self.view_is) at c.requires.room) in
    let next : length fs + 1 ≤ c.add_span.new.self.spare + length c.add_span.new.self.spans = omega (arith, room.ranges, c.add_span.ensures.room) in
    let entry = c.entry_of-entry.ensures in
    indexed_added fs _ _ _ c.self.inside.gap _ _ x c.self.invariant next older (c.requires.dur_not_negative, c.requires.end_is_tick) small
    (rw (← c.self.view_is) at c.requires.predecessor)
    (c.note.ensures.syncs fs older c.self.invariant.syncs)
    c.push.ensures.items
    (c.put.ensures.items ∙ ap (λ (e : OrderEntry). entries_with e os) entry)
    (c.add_span.ensures.spans ∙ ap (λ (s : Span). ranges_with c.self.inside.gap c.self.inside.ranges.spans s) (c.span_of.ensures ∙ ap (λ (e : OrderEntry). span_of e) entry))
    (ap (λ (n : ℕ). c.self.inside.total + n) c.len.ensures)

pub returns-clause-spare : goal.returns-clause-spare
returns-clause-spare c =
    let fs = row_items c.self.inside.items.rows in
    let long = ap length c.push.ensures.items in
    let more = length-append fs (c.args.frame ∷ []) in
    rw (← c.self.view_is) (room_kept 1 _ _ _ _ _ _ _ _
    (omega (arith, c.push.ensures.spare))
    c.put.ensures.spare
    c.note.ensures.room
    (omega (arith, long, more, c.add_span.ensures.room)))
