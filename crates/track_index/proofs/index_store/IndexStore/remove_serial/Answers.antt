use Rattle.std.proofs.Common.{refl, ◌≡◌, ◌∙◌, ◌≤◌, ◌+◌, ◌-◌, ◌++◌, ℕ, true, false, length, take, drop, ap, sym, subst, arith}
use Rattle.std.specs.List.{list_any}
use Rattle.mse_base.specs.Rows.{row_items, start}
use Rattle.block_list.specs.BlockPlaces.{rank}
use Rattle.block_list.specs.declared.block_list.BlockPlace.{BlockPlace}
use Rattle.track_store.specs.Frames.{bytes_of, has_serial, frames_left}
use Rattle.track_index.specs.Order.{presentation_order}
use Rattle.track_index.proofs.KeptStore.{indexed_removed}
use Rattle.track_index.proofs.Rooms.{room_grown}
use Rattle.track_index.proofs.RemovedRuns.{held_place, serial_gone, length_without}
use Rattle.track_index.proofs.Blocks.{item_place, block_order, index_order}
use Rattle.track_index.proofs.Runs.{run_within, bytes_out}
use Rattle.track_index.proofs.index_store.IndexStore.remove_serial.Goals as goal

pub place_below-from-requires : goal.place_below-from-requires
place_below-from-requires c = c.self.invariant.kept.ascending

pub run_from-run-requires : goal.run_from-run-requires
run_from-run-requires c =
    let rows = c.self.inside.items.rows in
    let s = c.place_below-from.result in
    let held = subst (λ v. list_any (has_serial c.args.serial) v.frames ≡ true) (sym c.self.view_is) c.requires in
    let p = item_place rows s c.place_below-from.ensures.place (held_place c.args.serial (row_items rows) (rank rows s) held c.place_below-from.ensures.before) in
    record { place = record { block = p.0; index = p.1 }; timed = c.self.invariant.timed; small = c.self.invariant.kept.small }

pub take_run_out-requires : goal.take_run_out-requires
take_run_out-requires c =
    let h = c.self.invariant in
    record { gap_from_zero = h.gap_from_zero; ascending = h.kept.ascending; timed = h.timed; in_order = h.in_order; joined = h.joined; room = h.roomy; run = c.run_from-run.ensures.run }

pub block-few-requires : goal.block-few-requires
block-few-requires c = c.run_from-run.ensures.run.last_block

pub overflow_add-to : goal.overflow_add-to
overflow_add-to c = omega (arith, c.run_from-run.ensures.run.last_index, ap length c.block-few.ensures.value, c.block-few.ensures.at_most_128)

pub remove_range-requires : goal.remove_range-requires
remove_range-requires c =
    let rows = c.self.inside.items.rows in
    let s = c.place_below-from.result in
    let r = c.run_from-run.result in
    let h = c.run_from-run.ensures.run in
    let e = ap (λ (p : BlockPlace). rank rows p) c.run_from-run.ensures.from in
    let held = subst (λ v. list_any (has_serial c.args.serial) v.frames ≡ true) (sym c.self.view_is) c.requires in
    let p = item_place rows s c.place_below-from.ensures.place (held_place c.args.serial (row_items rows) (rank rows s) held c.place_below-from.ensures.before) in
    let q = h.last_index in
    let up : rank rows s ≤ rank rows r.last = omega (arith, h.count, h.some, e) in
    record {
      from = p.0;
      from_index = p.1;
      to = h.last_block;
      to_index = omega (arith, q);
      some = omega arith;
      in_order = block_order rows s r.last p.0 h.last_block q up;
      in_block = λ j. omega (arith, index_order rows s r.last up j);
    }

pub overflow_sub-self : goal.overflow_sub-self
overflow_sub-self c =
    let rows = c.self.inside.items.rows in
    let run = c.run_from-run.result in
    omega (arith, c.self.invariant.summed, c.run_from-run.ensures.run.bytes, bytes_out (row_items rows) (rank rows run.from) run.count)

pub invariant_of-self : goal.invariant_of-self
invariant_of-self c =
    let rows = c.self.inside.items.rows in
    let fs = row_items rows in
    let s = c.place_below-from.result in
    let r = c.run_from-run.result in
    let i = rank rows s in
    let n = r.count in
    let inv = c.self.invariant in
    let h = c.run_from-run.ensures.run in
    let same : rank rows r.from ≡ i = ap (λ (p : BlockPlace). rank rows p) c.run_from-run.ensures.from in
    let w = run_within rows r h in
    let held = subst (λ v. list_any (has_serial c.args.serial) v.frames ≡ true) (sym c.self.view_is) c.requires in
    let z : start rows r.last.block + (r.last.index + 1) ≡ i + n = omega (arith, h.count, same) in
    let left = c.remove_range.ensures.items ∙ ap (λ (m : ℕ). take i fs ++ drop m fs) z in
    let gone = serial_gone c.args.serial fs i (i + n) inv.kept.ascending held c.place_below-from.ensures.before c.place_below-from.ensures.after c.run_from-run.ensures.rest in
    let out = ap (λ (k : ℕ). take k fs ++ drop (k + n) fs) same ∙ sym left in
    let bytes = bytes_out fs (rank rows r.from) n in
    let total : c.self.inside.total - r.bytes ≡ bytes_of (row_items c.remove_range.new.self.rows) = omega (arith, inv.summed, h.bytes, bytes, ap bytes_of out) in
    indexed_removed (has_serial c.args.serial) fs (row_items c.remove_range.new.self.rows) _ _ c.self.inside.gap _ _ inv c.take_run_out.ensures.room (omega (arith, ap length left, length_without fs i n (omega (arith, w, same)))) (left ∙ sym gone) refl (c.take_run_out.ensures.in_order ∙ ap presentation_order out) c.take_run_out.ensures.spans total

pub returns-clause-frames : goal.returns-clause-frames
returns-clause-frames c =
    let rows = c.self.inside.items.rows in
    let fs = row_items rows in
    let s = c.place_below-from.result in
    let r = c.run_from-run.result in
    let i = rank rows s in
    let n = r.count in
    let inv = c.self.invariant in
    let same : rank rows r.from ≡ i = ap (λ (p : BlockPlace). rank rows p) c.run_from-run.ensures.from in
    let held = subst (λ v. list_any (has_serial c.args.serial) v.frames ≡ true) (sym c.self.view_is) c.requires in
    let z : start rows r.last.block + (r.last.index + 1) ≡ i + n = omega (arith, c.run_from-run.ensures.run.count, same) in
    let left = c.remove_range.ensures.items ∙ ap (λ (m : ℕ). take i fs ++ drop m fs) z in
    let gone = serial_gone c.args.serial fs i (i + n) inv.kept.ascending held c.place_below-from.ensures.before c.place_below-from.ensures.after c.run_from-run.ensures.rest in
    left ∙ sym gone ∙ ap (λ v. frames_left false (has_serial c.args.serial) v.frames) c.self.view_is

pub returns-clause-shorter : goal.returns-clause-shorter
returns-clause-shorter c =
    let rows = c.self.inside.items.rows in
    let fs = row_items rows in
    let r = c.run_from-run.result in
    let i = rank rows c.place_below-from.result in
    let n = r.count in
    let h = c.run_from-run.ensures.run in
    let same : rank rows r.from ≡ i = ap (λ (p : BlockPlace). rank rows p) c.run_from-run.ensures.from in
    let z : start rows r.last.block + (r.last.index + 1) ≡ i + n = omega (arith, h.count, same) in
    let left = c.remove_range.ensures.items ∙ ap (λ (m : ℕ). take i fs ++ drop m fs) z in
    omega (arith, ap length left, length_without fs i n (omega (arith, run_within rows r h, same)), h.some, ap (λ v. length v.frames) c.self.view_is)

pub returns-clause-no_room_lost : goal.returns-clause-no_room_lost
returns-clause-no_room_lost c =
    let rows = c.self.inside.items.rows in
    let fs = row_items rows in
    let r = c.run_from-run.result in
    let i = rank rows c.place_below-from.result in
    let n = r.count in
    let h = c.run_from-run.ensures.run in
    let same : rank rows r.from ≡ i = ap (λ (p : BlockPlace). rank rows p) c.run_from-run.ensures.from in
    let z : start rows r.last.block + (r.last.index + 1) ≡ i + n = omega (arith, h.count, same) in
    let left = c.remove_range.ensures.items ∙ ap (λ (m : ℕ). take i fs ++ drop m fs) z in
    rw (← c.self.view_is) (room_grown _ _ _ _ _ _ _ _ (omega (arith, c.remove_range.ensures.no_room_lost)) c.take_run_out.ensures.no_room_lost (omega arith) (omega (arith, c.take_run_out.ensures.room, ap length left, length_without fs i n (omega (arith, run_within rows r h, same)))))
