use Rattle.std.proofs.Common.{◌≡◌, ◌∙◌, ◌<◌, ◌≤◌, false, ℕ, take, drop, length, sym, subst, arith}
use Rattle.std.specs.List.{AllByRecursion}
use Rattle.mse_base.specs.Rows.{row_items}
use Rattle.block_list.specs.BlockPlaces.{rank}
use Rattle.track_index.specs.Keyed.{is_before_key, is_entry_named}
use Rattle.track_index.proofs.EntryOrder.{each_more}
use Rattle.track_index.proofs.Keys.{found_init, found_here, none_from, none_at_end, none_behind, rest_next, unnamed_serial, is_named_entry}
use Rattle.track_index.proofs.Blocks.{rank_within}
use Rattle.track_index.proofs.order.Order.first_named.Goals as goal

pub returns-then-is_all_before-clause-none : goal.returns-then-is_all_before-clause-none
returns-then-is_all_before-clause-none c = none_behind c.args.key.now c.args.to.now c.args.below (row_items c.args.self.now.rows) (sym c.is_all_before.ensures ∙ c.if-is_all_before.true)

pub loop-place-init : goal.loop-place-init
loop-place-init c =
    let rows = c.args.self.now.rows in
    let k = rank rows c.place_at-place.result in
    record {
      place = c.place_at-place.ensures.place;
      passed = found_init c.args.key.now c.args.to.now c.args.below (row_items rows) k c.place_at-place.ensures.before;
      rest = c.place_at-place.ensures.after;
    }

pub entry-entry-requires : goal.entry-entry-requires
entry-entry-requires c = let l : c.loop-place.place.block < length c.args.self.now.rows = omega (arith, c.blocks-in-loop-place.ensures, c.loop-place-test.true) in record { block = l; index = c.loop-place.invariant.place.item l }

pub returns-then-not-is_before-clause-none : goal.returns-then-not-is_before-clause-none
returns-then-not-is_before-clause-none c =
    let rows = c.args.self.now.rows in
    let s = c.loop-place.place in
    let l : s.block < length rows = omega (arith, c.blocks-in-loop-place.ensures, c.loop-place-test.true) in
    none_from c.args.key.now c.args.to.now c.args.below (row_items rows) (rank rows s) c.entry-entry.result c.requires.keyed (rank_within rows s l (c.loop-place.invariant.place.item l)) c.entry-entry.ensures (sym c.is_before.ensures ∙ c.if-not-is_before.true) c.loop-place.invariant.passed

pub returns-then-entry-below-clause-found : goal.returns-then-entry-below-clause-found
returns-then-entry-below-clause-found c =
    let rows = c.args.self.now.rows in
    let s = c.loop-place.place in
    let l : s.block < length rows = omega (arith, c.blocks-in-loop-place.ensures, c.loop-place-test.true) in
    let named = is_named_entry c.args.to.now c.args.below c.entry-entry.result (sym c.is_before.ensures ∙ c.if-not-is_before.false) c.if-entry-below.true in
    found_here c.args.key.now c.args.to.now c.args.below (row_items rows) (rank rows s) c.entry-entry.result c.requires.keyed (rank_within rows s l (c.loop-place.invariant.place.item l)) c.entry-entry.ensures named c.loop-place.invariant.rest c.loop-place.invariant.passed

pub next-place-requires : goal.next-place-requires
next-place-requires c = let l : c.loop-place.place.block < length c.args.self.now.rows = omega (arith, c.blocks-in-loop-place.ensures, c.loop-place-test.true) in record { block = l; index = c.loop-place.invariant.place.item l }

pub loop-place-preserved : goal.loop-place-preserved
loop-place-preserved c =
    let rows = c.args.self.now.rows in
    let os = row_items rows in
    let s = c.loop-place.place in
    let l : s.block < length rows = omega (arith, c.blocks-in-loop-place.ensures, c.loop-place-test.true) in
    let k = rank_within rows s l (c.loop-place.invariant.place.item l) in
    let x = c.entry-entry.result in
    record {
      place = c.next-place.ensures.place;
      passed = subst (λ (n : ℕ). AllByRecursion (λ o. is_before_key c.args.key.now o ≡ false → is_entry_named c.args.to.now c.args.below o ≡ false) (take n os)) (sym c.next-place.ensures.rank) (each_more (λ o. is_before_key c.args.key.now o ≡ false → is_entry_named c.args.to.now c.args.below o ≡ false) os (rank rows s) x k c.entry-entry.ensures c.loop-place.invariant.passed (λ _. unnamed_serial c.args.to.now c.args.below x c.if-entry-below.false));
      rest = subst (λ (n : ℕ). AllByRecursion (λ o. is_before_key c.args.key.now o ≡ false) (drop n os)) (sym c.next-place.ensures.rank) (rest_next c.args.key.now os (rank rows s) x k c.entry-entry.ensures c.loop-place.invariant.rest);
    }

pub loop-place-smaller : goal.loop-place-smaller
loop-place-smaller c =
    let rows = c.args.self.now.rows in
    let s = c.loop-place.place in
    let l : s.block < length rows = omega (arith, c.blocks-in-loop-place.ensures, c.loop-place-test.true) in
    let k = rank_within rows s l (c.loop-place.invariant.place.item l) in
    omega (arith, c.next-place.ensures.rank, k)

pub returns-clause-none : goal.returns-clause-none
returns-clause-none c =
    let rows = c.args.self.now.rows in
    let s = c.loop-place.place in
    let past : length rows ≤ s.block = omega (arith, c.blocks-in-loop-place.ensures, c.loop-place-test.false) in
    none_at_end c.args.key.now c.args.to.now c.args.below (row_items rows) (rank rows s) (omega (arith, c.loop-place.invariant.place.end past)) c.loop-place.invariant.passed
