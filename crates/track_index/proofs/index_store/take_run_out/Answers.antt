use Rattle.std.proofs.Common.{◌≡◌, ◌∙◌, ◌+◌, ◌++◌, List, [], not, length, take, drop, map, filter, ap, sym, subst, arith}
use Rattle.mse_base.specs.Rows.{row_items}
use Rattle.block_list.specs.BlockPlaces.{rank}
use Rattle.track_store.specs.Frames.{intervals, IsTimed}
use Rattle.track_store.proofs.PlainStore.{are_ranges}
use Rattle.track_index.specs.declared.entry.OrderEntry.{OrderEntry}
use Rattle.track_index.specs.Order.{presentation_order, span_of}
use Rattle.track_index.specs.Repair.{AreBetween}
use Rattle.track_index.specs.Runs.{is_serial_from}
use Rattle.track_index.proofs.EntryOrder.{length_ordered}
use Rattle.track_index.proofs.Keys.{keyed_of}
use Rattle.track_index.proofs.KeptStore.{timed_entries}
use Rattle.track_index.proofs.MendedRanges.{between_within, between_none}
use Rattle.track_index.proofs.RemovedRuns.{length_without, ascending_without, each_without, between_run}
use Rattle.track_index.proofs.Runs.{run_within, run_of_serials, run_count, run_out}
use Rattle.track_index.proofs.index_store.take_run_out.Goals as goal

pub item-requires : goal.item-requires
item-requires c = record { block = c.requires.run.block; index = c.requires.run.index }

pub item-requires-2 : goal.item-requires-2
item-requires-2 c = record { block = c.requires.run.last_block; index = c.requires.run.last_index }

pub take_out_run-requires : goal.take_out_run-requires
take_out_run-requires c =
    let rows = c.args.frames.now.rows in
    let fs = row_items rows in
    let run = c.args.run.now in
    let h = run_of_serials rows run c.item.result.now c.item-2.result.now c.requires.ascending c.requires.run c.item.ensures c.item-2.ensures in
    record {
      keyed = keyed_of (row_items c.args.order.now.rows) fs c.requires.in_order c.requires.ascending;
      some = c.requires.run.some;
      count = ap (λ (os : List OrderEntry). length (filter (is_serial_from c.item.result.now.serial c.item-2.result.now.serial) os)) c.requires.in_order ∙ run_count fs (rank rows run.from) run.count c.item.result.now.serial c.item-2.result.now.serial (run_within rows run c.requires.run) h;
    }

pub mend-requires : goal.mend-requires
mend-requires c =
    let rows = c.args.frames.now.rows in
    let fs = row_items rows in
    let run = c.args.run.now in
    let i = rank rows run.from in
    let n = run.count in
    let x = c.item.result.now in
    let y = c.item-2.result.now in
    let h = run_of_serials rows run x y c.requires.ascending c.requires.run c.item.ensures c.item-2.ensures in
    let os = row_items c.take_out_run.new.self.rows in
    let gs = take i fs ++ drop (i + n) fs in
    let e : os ≡ presentation_order gs = c.take_out_run.ensures.items c.if-take_out_run.true ∙ ap (filter (λ (o : OrderEntry). not (is_serial_from x.serial y.serial o))) c.requires.in_order ∙ run_out fs i n x.serial y.serial h in
    record {
      gap_from_zero = c.requires.gap_from_zero;
      ranges = are_ranges c.args.gap fs c.args.ranges.now.spans c.requires.gap_from_zero c.requires.joined;
      room = omega (arith, ap length e ∙ length_ordered gs, length_without fs i n (run_within rows run c.requires.run), c.requires.room);
      keyed = keyed_of os gs e (ascending_without fs i (i + n) (omega arith) c.requires.ascending);
      timed = timed_entries gs os e (each_without IsTimed fs i (i + n) c.requires.timed);
    }

pub returns-then-take_out_run-clause-in_order : goal.returns-then-take_out_run-clause-in_order
returns-then-take_out_run-clause-in_order c =
    let rows = c.args.frames.now.rows in
    let run = c.args.run.now in
    let x = c.item.result.now in
    let y = c.item-2.result.now in
    let h = run_of_serials rows run x y c.requires.ascending c.requires.run c.item.ensures c.item-2.ensures in
    c.take_out_run.ensures.items c.if-take_out_run.true ∙ ap (filter (λ (o : OrderEntry). not (is_serial_from x.serial y.serial o))) c.requires.in_order ∙ run_out (row_items rows) (rank rows run.from) run.count x.serial y.serial h

pub returns-then-take_out_run-clause-spans : goal.returns-then-take_out_run-clause-spans
returns-then-take_out_run-clause-spans c =
    let rows = c.args.frames.now.rows in
    let fs = row_items rows in
    let run = c.args.run.now in
    let i = rank rows run.from in
    let n = run.count in
    let x = c.item.result.now in
    let y = c.item-2.result.now in
    let h = run_of_serials rows run x y c.requires.ascending c.requires.run c.item.ensures c.item-2.ensures in
    let os = row_items c.take_out_run.new.self.rows in
    let e : os ≡ presentation_order (take i fs ++ drop (i + n) fs) = c.take_out_run.ensures.items c.if-take_out_run.true ∙ ap (filter (λ (o : OrderEntry). not (is_serial_from x.serial y.serial o))) c.requires.in_order ∙ run_out fs i n x.serial y.serial h in
    let before = subst (λ (ps : List OrderEntry). AreBetween c.args.gap (map span_of ps) (intervals (take n (drop i fs))) c.args.ranges.now.spans) (sym e) (between_run c.args.gap fs i n c.args.ranges.now.spans c.requires.gap_from_zero c.requires.joined) in
    between_none c.args.gap (map span_of os) c.mend.new.ranges.spans c.requires.gap_from_zero c.mend.ensures.ranges (c.mend.ensures.between [] (between_within c.args.gap (map span_of os) c.args.ranges.now.spans run.hull (take n (drop i fs)) c.requires.run.within before))

pub take_out_each-requires : goal.take_out_each-requires
take_out_each-requires c = record { ascending = c.requires.ascending; in_order = c.take_out_run.ensures.same c.if-take_out_run.false ∙ c.requires.in_order; run = c.requires.run }

pub mend_run-requires : goal.mend_run-requires
mend_run-requires c =
    let rows = c.args.frames.now.rows in
    let fs = row_items rows in
    let run = c.args.run.now in
    let i = rank rows run.from in
    let n = run.count in
    let os = row_items c.take_out_each.new.order.rows in
    let gs = take i fs ++ drop (i + n) fs in
    let e : os ≡ presentation_order gs = c.take_out_each.ensures.in_order in
    record {
      repairable = record {
        gap_from_zero = c.requires.gap_from_zero;
        ranges = are_ranges c.args.gap fs c.args.ranges.now.spans c.requires.gap_from_zero c.requires.joined;
        room = omega (arith, ap length e ∙ length_ordered gs, length_without fs i n (run_within rows run c.requires.run), c.requires.room);
        keyed = keyed_of os gs e (ascending_without fs i (i + n) (omega arith) c.requires.ascending);
        timed = timed_entries gs os e (each_without IsTimed fs i (i + n) c.requires.timed);
      };
      frames = c.requires.timed;
      run = c.requires.run;
      between = subst (λ (ps : List OrderEntry). AreBetween c.args.gap (map span_of ps) (intervals (take n (drop i fs))) c.args.ranges.now.spans) (sym e) (between_run c.args.gap fs i n c.args.ranges.now.spans c.requires.gap_from_zero c.requires.joined);
    }
