use Rattle.std.proofs.Common.{◌≡◌, ◌∙◌, ◌<◌, ◌+◌, ℕ, true, length, take, drop, get_or, ap, subst, arith}
use Rattle.std.specs.List.{AllByRecursion}
use Rattle.mse_base.specs.Rows.{row_items}
use Rattle.block_list.specs.BlockPlaces.{rank}
use Rattle.track_index.specs.Runs.{is_serial_from}
use Rattle.track_index.proofs.Blocks.{rank_within}
use Rattle.track_index.proofs.Runs.{between_more}
use Rattle.track_index.proofs.order.Order.last_between.Goals as goal

pub loop-n-init : goal.loop-n-init
loop-n-init c = record {
  place = c.requires.place;
  next = omega arith;
  last = λ h. absurd (omega arith);
  count = λ h. absurd (omega arith);
  between = tt;
}

pub entry-serial-requires : goal.entry-serial-requires
entry-serial-requires c = let l : c.loop-n.place.block < length c.args.self.now.rows = omega (arith, c.blocks-blocks.ensures, c.if-place-blocks.false) in record { block = l; index = c.loop-n.invariant.place.item l }

pub next-place-requires : goal.next-place-requires
next-place-requires c = let l : c.loop-n.place.block < length c.args.self.now.rows = omega (arith, c.blocks-blocks.ensures, c.if-place-blocks.false) in record { block = l; index = c.loop-n.invariant.place.item l }

pub loop-n-preserved : goal.loop-n-preserved
loop-n-preserved c =
    let rows = c.args.self.now.rows in
    let os = row_items rows in
    let s = c.loop-n.place in
    let i = rank rows c.args.from in
    let n = c.loop-n.n in
    let inv = c.loop-n.invariant in
    let l : s.block < length rows = omega (arith, c.blocks-blocks.ensures, c.if-place-blocks.false) in
    let k = rank_within rows s l (inv.place.item l) in
    let x = c.entry-serial.result in
    let at : x ≡ get_or os (i + n) x = c.entry-serial.ensures ∙ ap (λ (j : ℕ). get_or os j x) inv.next in
    record {
      place = c.next-place.ensures.place;
      next = omega (arith, c.next-place.ensures.rank, inv.next);
      last = λ _. record { block = l; index = inv.place.item l };
      count = λ _. omega (arith, inv.next);
      between = between_more c.args.low c.args.high os i n x (omega (arith, inv.next, k)) at (omega (arith, c.if-serial-low.false)) (omega (arith, c.if-serial-high.false)) inv.between;
    }

pub returns : goal.returns
returns c =
    let e : c.loop-n.n ≡ c.args.count = omega arith in
    let inv = c.loop-n.invariant in
    record {
      place = inv.last (omega (arith, c.requires.some));
      count = inv.count (omega (arith, c.requires.some)) ∙ ap (λ (n : ℕ). rank c.args.self.now.rows c.args.from + n) e;
      between = subst (λ (n : ℕ). AllByRecursion (λ o. is_serial_from c.args.low c.args.high o ≡ true) (take n (drop (rank c.args.self.now.rows c.args.from) (row_items c.args.self.now.rows)))) e inv.between;
    }
