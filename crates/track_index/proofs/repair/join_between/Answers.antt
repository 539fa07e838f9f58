use Rattle.std.proofs.Common.{◌∙◌, ◌<◌, ◌+ℤ◌, ◌≤◌, ◌||◌, ℕ, ℤ, length, take, ap, sym, subst, refl, arith}
use Rattle.mse_base.specs.Time.{IsTick}
use Rattle.mse_base.specs.declared.span.Span.{Span}
use Rattle.mse_base.specs.Bridging.{is_near, is_near_any}
use Rattle.mse_base.specs.Rows.{row_items}
use Rattle.block_list.specs.BlockPlaces.{rank}
use Rattle.track_index.specs.declared.entry.OrderEntry.{OrderEntry}
use Rattle.track_index.specs.Repair.{HasTicksBetween}
use Rattle.track_index.proofs.Blocks.{rank_within}
use Rattle.track_index.proofs.MendedRanges.{grown_none, grown_more, between_init, between_more, between_high, between_end, timed_at, le_of}
use Rattle.track_index.proofs.repair.join_between.Goals as goal

pub loop-place-init : goal.loop-place-init
loop-place-init c = record {
  place = c.place_at-place.ensures.place;
  ranges = c.requires.ranges;
  room = refl;
  grown = grown_none c.args.gap (row_items c.args.order.now.rows) c.args.ranges.now.spans;
  between = between_init c.args.gap c.args.key.now c.args.high (row_items c.args.order.now.rows) c.args.ranges.now.spans (rank c.args.order.now.rows c.place_at-place.result) c.place_at-place.ensures.before;
}

pub entry-entry-requires : goal.entry-entry-requires
entry-entry-requires c = let l : c.loop-place.place.block < length c.args.order.now.rows = omega (arith, c.blocks-in-loop-place.ensures, c.loop-place-test.true) in record { block = l; index = c.loop-place.invariant.place.item l }

pub returns-then-is_by-clause-between : goal.returns-then-is_by-clause-between
returns-then-is_by-clause-between c = λ _.
    let rows = c.args.order.now.rows in
    let os = row_items rows in
    let s = c.loop-place.place in
    let l : s.block < length rows = omega (arith, c.blocks-in-loop-place.ensures, c.loop-place-test.true) in
    let k = rank_within rows s l (c.loop-place.invariant.place.item l) in
    between_high c.args.gap c.args.key.now c.args.high os c.loop-place.ranges.spans (rank rows s) c.entry-entry.result c.requires.keyed k c.entry-entry.ensures (le_of c.args.high c.entry-entry.result.pts (sym c.is_by.ensures ∙ c.if-is_by.true)) c.loop-place.invariant.between

pub span_of-requires : goal.span_of-requires
span_of-requires c =
    let rows = c.args.order.now.rows in
    let os = row_items rows in
    let s = c.loop-place.place in
    let l : s.block < length rows = omega (arith, c.blocks-in-loop-place.ensures, c.loop-place-test.true) in
    let k = rank_within rows s l (c.loop-place.invariant.place.item l) in
    subst (λ (o : OrderEntry). IsTick (o.pts +ℤ o.dur)) (sym c.entry-entry.ensures) (timed_at os (rank rows s) c.entry-entry.result k c.requires.timed)

pub next-place-requires : goal.next-place-requires
next-place-requires c = let l : c.loop-place.place.block < length c.args.order.now.rows = omega (arith, c.blocks-in-loop-place.ensures, c.loop-place-test.true) in record { block = l; index = c.loop-place.invariant.place.item l }

pub loop-place-preserved : goal.loop-place-preserved
loop-place-preserved c =
    let rows = c.args.order.now.rows in
    let os = row_items rows in
    let s = c.loop-place.place in
    let l : s.block < length rows = omega (arith, c.blocks-in-loop-place.ensures, c.loop-place-test.true) in
    let k = rank_within rows s l (c.loop-place.invariant.place.item l) in
    let x = c.entry-entry.result in
    let e = λ (t : ℤ). c.join.ensures.ticks c.if-not-join.false t ∙ ap (λ (z : Span). is_near c.args.gap t z || is_near_any c.args.gap t c.loop-place.ranges.spans) c.span_of.ensures in
    record {
      place = c.next-place.ensures.place;
      ranges = c.join.ensures.ranges;
      room = c.join.ensures.room ∙ c.loop-place.invariant.room;
      grown = grown_more c.args.gap os c.args.ranges.now.spans c.loop-place.ranges.spans c.join.new.ranges.spans (rank rows s) x k c.entry-entry.ensures e c.loop-place.invariant.grown;
      between = subst (λ (n : ℕ). HasTicksBetween c.args.gap c.args.key.now c.args.high (take n os) c.join.new.ranges.spans) (sym c.next-place.ensures.rank) (between_more c.args.gap c.args.key.now c.args.high os c.loop-place.ranges.spans c.join.new.ranges.spans (rank rows s) x k c.entry-entry.ensures e c.loop-place.invariant.between);
    }

pub loop-place-smaller : goal.loop-place-smaller
loop-place-smaller c =
    let rows = c.args.order.now.rows in
    let os = row_items rows in
    let s = c.loop-place.place in
    let l : s.block < length rows = omega (arith, c.blocks-in-loop-place.ensures, c.loop-place-test.true) in
    let k = rank_within rows s l (c.loop-place.invariant.place.item l) in
    omega (arith, c.next-place.ensures.rank, k)

pub returns-clause-between : goal.returns-clause-between
returns-clause-between c = λ _.
    let rows = c.args.order.now.rows in
    let s = c.loop-place.place in
    let past : length rows ≤ s.block = omega (arith, c.blocks-in-loop-place.ensures, c.loop-place-test.false) in
    between_end c.args.gap c.args.key.now c.args.high (row_items rows) c.loop-place.ranges.spans (rank rows s) (omega (arith, c.loop-place.invariant.place.end past)) c.loop-place.invariant.between
