use Rattle.std.proofs.Common.{◌≡◌, ◌∙◌, ◌<◌, ◌+◌, ◌≤◌, ℕ, length, drop, get_or, ap, sym, subst, arith}
use Rattle.mse_base.specs.Rows.{row_items}
use Rattle.block_list.specs.BlockPlaces.{rank}
use Rattle.track_store.specs.Frames.{from_sync, IsTimed}
use Rattle.track_index.specs.declared.frames.Run.{Run}
use Rattle.track_index.specs.Runs.{IsRun}
use Rattle.track_index.proofs.FrameLookUps.{run_stops, run_goes, run_ends}
use Rattle.track_index.proofs.Blocks.{rank_within}
use Rattle.track_index.proofs.RemovedRuns.{each_at}
use Rattle.track_index.proofs.Runs.{run_begun, run_grown, bytes_run_more, bytes_at_most}
use Rattle.track_index.proofs.frames.run_from.Goals as goal

pub one-run-requires : goal.one-run-requires
one-run-requires c =
    let rows = c.args.frames.now.rows in
    let k = rank_within rows c.args.from c.requires.place.block c.requires.place.index in
    let x = c.item.result.now in
    (subst IsTimed (sym c.item.ensures) (each_at IsTimed (row_items rows) (rank rows c.args.from) x k c.requires.timed)).1

pub loop-next-init : goal.loop-next-init
loop-next-init c =
    let rows = c.args.frames.now.rows in
    let e = c.one-run.ensures in
    record {
      from = ap (λ (r : Run). r.from) e;
      run = subst (λ (r : Run). IsRun rows r) (sym e) (run_begun rows c.args.from c.item.result.now c.requires.place.block c.requires.place.index c.item.ensures);
      place = c.next-next.ensures.place;
      next = omega (arith, c.next-next.ensures.rank, ap (λ (r : Run). r.count) e);
      rest = ap (λ (r : Run). from_sync (drop (rank rows c.args.from + r.count) (row_items rows))) e;
    }

pub item-stored-requires : goal.item-stored-requires
item-stored-requires c =
    let l : c.loop-next.next.block < length c.args.frames.now.rows = omega (arith, c.blocks-in-loop-next.ensures, c.loop-next-test.true) in
    record { block = l; index = c.loop-next.invariant.place.item l }

pub returns-then-stored-clause-rest : goal.returns-then-stored-clause-rest
returns-then-stored-clause-rest c =
    let rows = c.args.frames.now.rows in
    let fs = row_items rows in
    let s = c.loop-next.next in
    let l : s.block < length rows = omega (arith, c.blocks-in-loop-next.ensures, c.loop-next-test.true) in
    let k = rank_within rows s l (c.loop-next.invariant.place.item l) in
    let e = c.loop-next.invariant.next in
    ap (λ (n : ℕ). drop n fs) (sym e) ∙ sym (run_stops fs (rank rows s) c.item-stored.result.now k c.item-stored.ensures c.if-stored.true) ∙ ap (λ (n : ℕ). from_sync (drop n fs)) e ∙ c.loop-next.invariant.rest

pub with-run-requires : goal.with-run-requires
with-run-requires c =
    let rows = c.args.frames.now.rows in
    let fs = row_items rows in
    let s = c.loop-next.next in
    let inv = c.loop-next.invariant in
    let l : s.block < length rows = omega (arith, c.blocks-in-loop-next.ensures, c.loop-next-test.true) in
    let k = rank_within rows s l (inv.place.item l) in
    let x = c.item-stored.result.now in
    let i = rank rows c.loop-next.run.from in
    let n = c.loop-next.run.count in
    let e : rank rows s ≡ i + n = inv.next ∙ ap (λ p. rank rows p + n) (sym inv.from) in
    let at : x ≡ get_or fs (i + n) x = c.item-stored.ensures ∙ ap (λ (j : ℕ). get_or fs j x) e in
    let more = bytes_run_more fs i n x (omega arith) at in
    let most = bytes_at_most fs i (n + 1) in
    record {
      timed = (subst IsTimed (sym c.item-stored.ensures) (each_at IsTimed fs (rank rows s) x k c.requires.timed)).1;
      count = omega (arith, inv.next, k, c.len-len.ensures);
      bytes = omega (arith, more, most, inv.run.bytes, c.requires.small);
    }

pub loop-next-preserved : goal.loop-next-preserved
loop-next-preserved c =
    let rows = c.args.frames.now.rows in
    let fs = row_items rows in
    let s = c.loop-next.next in
    let inv = c.loop-next.invariant in
    let l : s.block < length rows = omega (arith, c.blocks-in-loop-next.ensures, c.loop-next-test.true) in
    let k = rank_within rows s l (inv.place.item l) in
    let x = c.item-stored.result.now in
    let n = c.loop-next.run.count in
    let e : rank rows s ≡ rank rows c.loop-next.run.from + n = inv.next ∙ ap (λ p. rank rows p + n) (sym inv.from) in
    let w = c.with-run.ensures in
    let m : c.with-run.result.count ≡ n + 1 = ap (λ (r : Run). r.count) w in
    record {
      from = ap (λ (r : Run). r.from) w ∙ inv.from;
      run = subst (λ (r : Run). IsRun rows r) (sym w) (run_grown rows c.loop-next.run s x inv.run l (inv.place.item l) e c.item-stored.ensures);
      place = c.next-next-in-loop-next.ensures.place;
      next = omega (arith, c.next-next-in-loop-next.ensures.rank, inv.next, m);
      rest = run_goes fs (rank rows s) (rank rows c.args.from + c.with-run.result.count) x k c.item-stored.ensures c.if-stored.false (omega (arith, inv.next, m)) ∙ ap (λ (j : ℕ). from_sync (drop j fs)) inv.next ∙ inv.rest;
    }

pub loop-next-smaller : goal.loop-next-smaller
loop-next-smaller c =
    let rows = c.args.frames.now.rows in
    let s = c.loop-next.next in
    let l : s.block < length rows = omega (arith, c.blocks-in-loop-next.ensures, c.loop-next-test.true) in
    let k = rank_within rows s l (c.loop-next.invariant.place.item l) in
    omega (arith, c.next-next-in-loop-next.ensures.rank, k)

pub returns-clause-rest : goal.returns-clause-rest
returns-clause-rest c =
    let rows = c.args.frames.now.rows in
    let fs = row_items rows in
    let s = c.loop-next.next in
    let past : length rows ≤ s.block = omega (arith, c.blocks-in-loop-next.ensures, c.loop-next-test.false) in
    let e = c.loop-next.invariant.next in
    ap (λ (n : ℕ). drop n fs) (sym e) ∙ sym (run_ends fs (rank rows s) (omega (arith, c.loop-next.invariant.place.end past))) ∙ ap (λ (n : ℕ). from_sync (drop n fs)) e ∙ c.loop-next.invariant.rest
