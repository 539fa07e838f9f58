use Rattle.std.proofs.Common.{◌∙◌, ◌<◌, ◌+ℤ◌, ◌≤◌, ℕ, [], length, take, map, ap, sym, subst, arith}
use Rattle.mse_base.specs.Time.{IsTick}
use Rattle.mse_base.specs.Bridging.{bridged_ranges, ranges_with, IsRanges}
use Rattle.mse_base.proofs.JoinedSpans.{ranges_bridged}
use Rattle.mse_base.specs.Rows.{row_items}
use Rattle.block_list.specs.BlockPlaces.{rank}
use Rattle.track_index.specs.declared.entry.OrderEntry.{OrderEntry}
use Rattle.track_index.specs.Order.{span_of}
use Rattle.track_index.proofs.Blocks.{rank_within}
use Rattle.track_index.proofs.MendedRanges.{join_more, timed_at, few_taken, take_end}
use Rattle.track_index.proofs.repair.remake.Goals as goal

pub loop-place-init : goal.loop-place-init
loop-place-init c = record {
  place = c.start-place.ensures.place;
  spans = c.clear.ensures.spans ∙ sym (ap (λ (n : ℕ). bridged_ranges c.args.gap (map span_of (take n (row_items c.args.order.now.rows)))) c.start-place.ensures.rank);
  room = omega (arith, c.clear.ensures.room);
}

pub entry-entry-requires : goal.entry-entry-requires
entry-entry-requires c = let l : c.loop-place.place.block < length c.args.order.now.rows = omega (arith, c.blocks-in-loop-place.ensures, c.loop-place-test.true) in record { block = l; index = c.loop-place.invariant.place.item l }

pub span_of-requires : goal.span_of-requires
span_of-requires c =
    let rows = c.args.order.now.rows in
    let os = row_items rows in
    let s = c.loop-place.place in
    let l : s.block < length rows = omega (arith, c.blocks-in-loop-place.ensures, c.loop-place-test.true) in
    let k = rank_within rows s l (c.loop-place.invariant.place.item l) in
    subst (λ (o : OrderEntry). IsTick (o.pts +ℤ o.dur)) (sym c.entry-entry.ensures) (timed_at os (rank rows s) c.entry-entry.result k c.requires.timed)

pub add_span-requires : goal.add_span-requires
add_span-requires c =
    let rows = c.args.order.now.rows in
    let os = row_items rows in
    let s = c.loop-place.place in
    let l : s.block < length rows = omega (arith, c.blocks-in-loop-place.ensures, c.loop-place-test.true) in
    let k = rank_within rows s l (c.loop-place.invariant.place.item l) in
    let n = few_taken c.args.gap os (rank rows s) c.loop-place.ranges.spans k c.loop-place.invariant.spans in
    record {
      room = omega (arith, n, k, c.requires.room, c.loop-place.invariant.room);
      gap_from_zero = c.requires.gap_from_zero;
      ranges = subst (IsRanges c.args.gap) (sym c.loop-place.invariant.spans) (ranges_bridged c.args.gap (map span_of (take (rank rows s) os)) c.requires.gap_from_zero);
    }

pub next-place-requires : goal.next-place-requires
next-place-requires c = let l : c.loop-place.place.block < length c.args.order.now.rows = omega (arith, c.blocks-in-loop-place.ensures, c.loop-place-test.true) in record { block = l; index = c.loop-place.invariant.place.item l }

pub loop-place-preserved : goal.loop-place-preserved
loop-place-preserved c =
    let rows = c.args.order.now.rows in
    let os = row_items rows in
    let s = c.loop-place.place in
    let l : s.block < length rows = omega (arith, c.blocks-in-loop-place.ensures, c.loop-place-test.true) in
    let k = rank_within rows s l (c.loop-place.invariant.place.item l) in
    record {
      place = c.next-place.ensures.place;
      spans = c.add_span.ensures.spans ∙ ap (ranges_with c.args.gap c.loop-place.ranges.spans) c.span_of.ensures ∙ ap (λ rs. ranges_with c.args.gap rs (span_of c.entry-entry.result)) c.loop-place.invariant.spans ∙ sym (join_more c.args.gap [] os (rank rows s) c.entry-entry.result k c.entry-entry.ensures) ∙ ap (λ (n : ℕ). bridged_ranges c.args.gap (map span_of (take n os))) (sym c.next-place.ensures.rank);
      room = omega (arith, c.add_span.ensures.room, c.loop-place.invariant.room);
    }

pub loop-place-smaller : goal.loop-place-smaller
loop-place-smaller c =
    let rows = c.args.order.now.rows in
    let os = row_items rows in
    let s = c.loop-place.place in
    let l : s.block < length rows = omega (arith, c.blocks-in-loop-place.ensures, c.loop-place-test.true) in
    let k = rank_within rows s l (c.loop-place.invariant.place.item l) in
    omega (arith, c.next-place.ensures.rank, k)

pub returns-clause-spans : goal.returns-clause-spans
returns-clause-spans c =
    let rows = c.args.order.now.rows in
    let s = c.loop-place.place in
    let past : length rows ≤ s.block = omega (arith, c.blocks-in-loop-place.ensures, c.loop-place-test.false) in
    c.loop-place.invariant.spans ∙ ap (λ os. bridged_ranges c.args.gap (map span_of os)) (take_end (row_items rows) (rank rows s) (omega (arith, c.loop-place.invariant.place.end past)))
