use Rattle.std.proofs.Common.{◌≡◌, ◌∙◌, ◌-◌, ◌<◌, length, get_or, arith}
use Rattle.std.proofs.lemmas.List.{length-set}
use Rattle.block_list.specs.Starts.{starts_of}
use Rattle.block_list.proofs.RowStarts.{length_starts, start_at, kept_high, lower_rest, written_front}
use Rattle.block_list.proofs.ranked.lower.Goals as goal

pub overflow_sub-index_mut : goal.overflow_sub-index_mut
overflow_sub-index_mut g c =
    let ks = c.loop-b.starts.items in
    let rows = c.args.list.now.rows in
    let inv = c.loop-b.invariant in
    let b = c.loop-b.b in
    let l : b < length rows = omega (arith, c.loop-b-test.true, c.requires.within) in
    let at = kept_high ks (starts_of rows) b c.args.excess b c.index_mut.result.now (omega arith) (omega (arith, inv.long)) (omega (arith, length_starts 0 rows)) inv.rest in
    omega (arith, c.index_mut.ensures.value ∙ at)

pub loop-b-preserved : goal.loop-b-preserved
loop-b-preserved g c =
    let ks = c.loop-b.starts.items in
    let rows = c.args.list.now.rows in
    let b = c.loop-b.b in
    let inv = c.loop-b.invariant in
    let v = c.index_mut.result.now in
    let x = v - c.args.excess in
    let l : b < length rows = omega (arith, c.loop-b-test.true, c.requires.within) in
    let k : b < length ks = omega (arith, inv.long) in
    let m : b < length (starts_of rows) = omega (arith, length_starts 0 rows) in
    let at = kept_high ks (starts_of rows) b c.args.excess b v (omega arith) k m inv.rest in
    let y : v - c.args.excess ≡ get_or (starts_of rows) b (v - c.args.excess) = omega (arith, c.index_mut.ensures.value ∙ at, start_at 0 rows b v l, start_at 0 rows b (v - c.args.excess) l) in
    record {
      long = length-set ks b x ∙ inv.long;
      within = omega (arith, c.loop-b-test.true);
      front = written_front ks (starts_of rows) b x k m y inv.front;
      rest = lower_rest ks (starts_of rows) b c.args.excess x k m inv.rest;
      room = inv.room;
    }
