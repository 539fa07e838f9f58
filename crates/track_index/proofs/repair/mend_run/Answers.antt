use Rattle.std.proofs.Common.{◌≡◌, ◌∙◌, ◌<◌, ◌+◌, ◌+ℤ◌, ◌∷◌, ℕ, length, take, drop, get_or, map, ap, sym, subst, arith}
use Rattle.mse_base.specs.Time.{IsTick}
use Rattle.mse_base.specs.declared.span.Span.{Span}
use Rattle.mse_base.specs.Rows.{row_items}
use Rattle.block_list.specs.BlockPlaces.{rank}
use Rattle.track_store.specs.Frames.{intervals, interval, IsTimed}
use Rattle.track_index.specs.declared.entry.OrderEntry.{OrderEntry}
use Rattle.track_index.specs.Order.{span_of}
use Rattle.track_index.specs.Repair.{AreBetween}
use Rattle.track_index.proofs.MendedRanges.{between_none}
use Rattle.track_index.proofs.RemovedRuns.{each_at, run_next, run_over, first_place}
use Rattle.track_index.proofs.Blocks.{item_place}
use Rattle.track_index.proofs.Runs.{run_within}
use Rattle.track_index.proofs.repair.mend_run.Goals as goal

pub loop-n-init : goal.loop-n-init
loop-n-init c = record {
  place = first_place c.args.frames.now.rows c.args.run.now.from c.requires.run.block c.requires.run.index;
  next = omega arith;
  ranges = c.requires.repairable.ranges;
  room = omega arith;
  between = c.requires.between;
}

pub item-requires : goal.item-requires
item-requires c =
    let rows = c.args.frames.now.rows in
    let k : rank rows c.loop-n.place < length (row_items rows) = omega (arith, c.loop-n.invariant.next, (run_within c.args.frames.now.rows c.args.run.now c.requires.run)) in
    let p = item_place rows c.loop-n.place c.loop-n.invariant.place k in
    record { block = p.0; index = p.1 }

pub span_of-hole-requires : goal.span_of-hole-requires
span_of-hole-requires c =
    let rows = c.args.frames.now.rows in
    let k : rank rows c.loop-n.place < length (row_items rows) = omega (arith, c.loop-n.invariant.next, (run_within c.args.frames.now.rows c.args.run.now c.requires.run)) in
    let x = c.item.result.now in
    let t = subst IsTimed (sym c.item.ensures) (each_at IsTimed (row_items rows) (rank rows c.loop-n.place) x k c.requires.frames) in
    subst (λ (o : OrderEntry). IsTick (o.pts +ℤ o.dur)) (sym c.entry_of.ensures) t.1

pub mend-requires : goal.mend-requires
mend-requires c = record { gap_from_zero = c.requires.repairable.gap_from_zero; ranges = c.loop-n.invariant.ranges; room = omega (arith, c.requires.repairable.room, c.loop-n.invariant.room); keyed = c.requires.repairable.keyed; timed = c.requires.repairable.timed }

pub next-place-requires : goal.next-place-requires
next-place-requires c =
    let rows = c.args.frames.now.rows in
    let k : rank rows c.loop-n.place < length (row_items rows) = omega (arith, c.loop-n.invariant.next, (run_within c.args.frames.now.rows c.args.run.now c.requires.run)) in
    let p = item_place rows c.loop-n.place c.loop-n.invariant.place k in
    record { block = p.0; index = p.1 }

pub loop-n-preserved : goal.loop-n-preserved
loop-n-preserved c =
    let rows = c.args.frames.now.rows in
    let fs = row_items rows in
    let i = rank rows c.args.run.now.from in
    let n = c.loop-n.n in
    let run = take c.args.run.now.count (drop i fs) in
    let x = c.item.result.now in
    let S = map span_of (row_items c.args.order.now.rows) in
    let at : x ≡ get_or fs (i + n) x = c.item.ensures ∙ ap (λ (k : ℕ). get_or fs k x) c.loop-n.invariant.next in
    let step = ap intervals (run_next fs i c.args.run.now.count n x (run_within c.args.frames.now.rows c.args.run.now c.requires.run) (omega arith) at) in
    let hole : interval x ≡ c.span_of-hole.result = sym (c.span_of-hole.ensures ∙ ap (λ (o : OrderEntry). span_of o) c.entry_of.ensures) in
    let before = subst (λ zs. AreBetween c.args.gap (map span_of (row_items c.args.order.now.rows)) zs c.loop-n.ranges.spans) (step ∙ ap (λ (z : Span). z ∷ intervals (drop (n + 1) run)) hole) c.loop-n.invariant.between in
    record {
      place = c.next-place.ensures.place;
      next = omega (arith, c.next-place.ensures.rank, c.loop-n.invariant.next);
      ranges = c.mend.ensures.ranges;
      room = omega (arith, c.loop-n.invariant.room, c.mend.ensures.room);
      between = c.mend.ensures.between (intervals (drop (n + 1) run)) before;
    }

pub returns-clause-spans : goal.returns-clause-spans
returns-clause-spans c =
    let fs = row_items c.args.frames.now.rows in
    let i = rank c.args.frames.now.rows c.args.run.now.from in
    let none = ap intervals (run_over fs i c.args.run.now.count c.loop-n.n (run_within c.args.frames.now.rows c.args.run.now c.requires.run) (omega arith)) in
    between_none c.args.gap (map span_of (row_items c.args.order.now.rows)) c.loop-n.ranges.spans c.requires.repairable.gap_from_zero c.loop-n.invariant.ranges (subst (λ zs. AreBetween c.args.gap (map span_of (row_items c.args.order.now.rows)) zs c.loop-n.ranges.spans) none c.loop-n.invariant.between)
