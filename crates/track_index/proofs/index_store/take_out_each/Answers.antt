use Rattle.std.proofs.Common.{◌≡◌, ◌∙◌, ◌<◌, ◌+◌, ◌++◌, ◌∷◌, ℕ, not, length, take, drop, get_or, filter, ap, sym, subst, arith}
use Rattle.std.specs.List.{AllByRecursion, list_any}
use Rattle.std.proofs.lemmas.List.{take-append-drop}
use Rattle.mse_base.specs.Rows.{row_items}
use Rattle.block_list.specs.BlockPlaces.{rank}
use Rattle.track_store.specs.Frames.{IsAscending}
use Rattle.track_index.specs.declared.entry.OrderEntry.{OrderEntry}
use Rattle.track_index.specs.Order.{presentation_order}
use Rattle.track_index.specs.Keyed.{IsKeyed, has_entry_serial}
use Rattle.track_index.proofs.Keys.{keyed_ordered}
use Rattle.track_index.proofs.RemovedRuns.{first_place, without_more, ascending_without, own_pts, held_mid, order_without}
use Rattle.track_index.proofs.Blocks.{item_place}
use Rattle.track_index.proofs.Runs.{run_within}
use Rattle.track_index.proofs.index_store.take_out_each.Goals as goal

pub loop-n-init : goal.loop-n-init
loop-n-init c =
    let fs = row_items c.args.frames.now.rows in
    let i = rank c.args.frames.now.rows c.args.run.now.from in
    let z : i + 0 ≡ i = omega arith in
    let whole : take i fs ++ drop (i + 0) fs ≡ fs = ap (λ (k : ℕ). take i fs ++ drop k fs) z ∙ take-append-drop i fs in
    record {
      place = first_place c.args.frames.now.rows c.args.run.now.from c.requires.run.block c.requires.run.index;
      next = omega arith;
      order = c.requires.in_order ∙ ap presentation_order (sym whole);
      spare = omega arith;
    }

pub item-stored-requires : goal.item-stored-requires
item-stored-requires c =
    let rows = c.args.frames.now.rows in
    let k : rank rows c.loop-n.place < length (row_items rows) = omega (arith, c.loop-n.invariant.next, run_within c.args.frames.now.rows c.args.run.now c.requires.run) in
    let p = item_place rows c.loop-n.place c.loop-n.invariant.place k in
    record { block = p.0; index = p.1 }

pub take_out-requires : goal.take_out-requires
take_out-requires c =
    let rows = c.args.frames.now.rows in
    let fs = row_items rows in
    let i = rank rows c.args.run.now.from in
    let n = c.loop-n.n in
    let x = c.item-stored.result.now in
    let ys = drop (i + (n + 1)) fs in
    let at : x ≡ get_or fs (i + n) x = c.item-stored.ensures ∙ ap (λ (k : ℕ). get_or fs k x) c.loop-n.invariant.next in
    let e = without_more fs i n x (omega (arith, run_within rows c.args.run.now c.requires.run)) at in
    let u = subst IsAscending e (ascending_without fs i (i + n) (omega arith) c.requires.ascending) in
    let o = c.loop-n.invariant.order ∙ ap presentation_order e in
    record {
      keyed = subst IsKeyed (sym o) (keyed_ordered (take i fs ++ x ∷ ys) u);
      at_pts = subst (λ os. AllByRecursion (λ p. p.serial ≡ x.serial → p.pts ≡ x.frame.pts) os) (sym o) (own_pts (take i fs) x ys u);
      held = ap (list_any (has_entry_serial x.serial)) o ∙ held_mid (take i fs) x ys;
    }

pub next-place-requires : goal.next-place-requires
next-place-requires c =
    let rows = c.args.frames.now.rows in
    let k : rank rows c.loop-n.place < length (row_items rows) = omega (arith, c.loop-n.invariant.next, run_within c.args.frames.now.rows c.args.run.now c.requires.run) in
    let p = item_place rows c.loop-n.place c.loop-n.invariant.place k in
    record { block = p.0; index = p.1 }

pub loop-n-preserved : goal.loop-n-preserved
loop-n-preserved c =
    let rows = c.args.frames.now.rows in
    let fs = row_items rows in
    let i = rank rows c.args.run.now.from in
    let n = c.loop-n.n in
    let x = c.item-stored.result.now in
    let ys = drop (i + (n + 1)) fs in
    let at : x ≡ get_or fs (i + n) x = c.item-stored.ensures ∙ ap (λ (k : ℕ). get_or fs k x) c.loop-n.invariant.next in
    let e = without_more fs i n x (omega (arith, run_within rows c.args.run.now c.requires.run)) at in
    let u = subst IsAscending e (ascending_without fs i (i + n) (omega arith) c.requires.ascending) in
    let o = c.loop-n.invariant.order ∙ ap presentation_order e in
    record {
      place = c.next-place.ensures.place;
      next = omega (arith, c.next-place.ensures.rank, c.loop-n.invariant.next);
      order = c.take_out.ensures.items ∙ ap (filter (λ (p : OrderEntry). not (has_entry_serial x.serial p))) o ∙ order_without (take i fs) x ys u;
      spare = omega (arith, c.loop-n.invariant.spare, c.take_out.ensures.no_room_lost);
    }

pub returns : goal.returns
returns c =
    let z : c.loop-n.n ≡ c.args.run.now.count = omega arith in
    let fs = row_items c.args.frames.now.rows in
    let i = rank c.args.frames.now.rows c.args.run.now.from in
    record {
      in_order = c.loop-n.invariant.order ∙ ap (λ (k : ℕ). presentation_order (take i fs ++ drop (i + k) fs)) z;
      no_room_lost = c.loop-n.invariant.spare;
    }
