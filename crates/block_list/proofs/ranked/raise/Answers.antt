use Rattle.std.proofs.Common.{◌≡◌, ◌∙◌, ◌+◌, ◌-◌, ◌<◌, length, get_or, arith}
use Rattle.std.proofs.lemmas.List.{length-set}
use Rattle.block_list.specs.Starts.{starts_of}
use Rattle.block_list.proofs.RowStarts.{length_starts, start_at, start_before, kept_low, raise_front, raise_rest}
use Rattle.block_list.proofs.ranked.raise.Goals as goal

pub overflow_add-index_mut : goal.overflow_add-index_mut
overflow_add-index_mut g c =
    let ks = c.loop-b.starts.items in
    let rows = c.args.list.now.rows in
    let inv = c.loop-b.invariant in
    let b = c.loop-b.b - 1 in
    let v = c.index_mut.result.now in
    let l : b < length rows = omega (arith, c.loop-b-test.true, inv.within, c.requires.within) in
    let at = kept_low ks (starts_of rows) c.loop-b.b b v (omega (arith, c.loop-b-test.true)) (omega (arith, inv.long)) (omega (arith, length_starts 0 rows)) inv.front in
    omega (arith, c.index_mut.ensures.value ∙ at, start_at 0 rows b v l, start_before rows b c.args.from (omega (arith, c.loop-b-test.true, inv.within)) c.requires.within, c.requires.fits)

pub loop-b-preserved : goal.loop-b-preserved
loop-b-preserved g c =
    let ks = c.loop-b.starts.items in
    let rows = c.args.list.now.rows in
    let inv = c.loop-b.invariant in
    let b = c.loop-b.b - 1 in
    let v = c.index_mut.result.now in
    let x = c.args.excess in
    let l : b < length rows = omega (arith, c.loop-b-test.true, inv.within, c.requires.within) in
    let k : b < length ks = omega (arith, inv.long) in
    let m : b < length (starts_of rows) = omega (arith, length_starts 0 rows) in
    let at = kept_low ks (starts_of rows) c.loop-b.b b v (omega (arith, c.loop-b-test.true)) k m inv.front in
    let y : v + c.args.excess ≡ get_or (starts_of rows) b (v + c.args.excess) + c.args.excess = omega (arith, c.index_mut.ensures.value ∙ at, start_at 0 rows b v l, start_at 0 rows b (v + c.args.excess) l) in
    record {
      long = length-set ks b (v + x) ∙ inv.long;
      above = omega (arith, c.loop-b-test.true);
      within = omega (arith, inv.within);
      front = raise_front ks (starts_of rows) b c.loop-b.b (v + x) (omega arith) inv.front;
      rest = raise_rest ks (starts_of rows) b c.loop-b.b x (v + x) (omega (arith, c.loop-b-test.true)) k m y inv.rest;
      room = inv.room;
    }
