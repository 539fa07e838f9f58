use Rattle.std.proofs.Common.{◌≡◌, ◌∙◌, ◌+◌, ◌-◌, ◌<◌, length, ap, subst, sym, refl, arith}
use Rattle.mse_base.specs.Rows.{row, AreEmpty}
use Rattle.mse_base.proofs.InRows.{dense_last, gathered, gathered_none, empty_push, one_more}
use Rattle.mse_base.proofs.block_row.gather.Goals as goal

pub gathering-init : goal.gathering-init
gathering-init c =
    let n : c.len-b.result ≡ length c.args.blocks.now.items = omega (arith, c.len-b.ensures, c.args.blocks.now.ok.0) in
    record {
      within = omega (arith, n);
      spans = refl;
      filled = c.requires.filled;
      empty = c.requires.empty;
      dense = dense_last c.args.blocks.now.items (c.len-b.result - 1) (omega (arith, n));
      len = refl;
      capacity = refl;
      pool_capacity = refl;
    }

pub gathering-preserved-then-len_at-le-LONG : goal.gathering-preserved-then-len_at-le-LONG
gathering-preserved-then-len_at-le-LONG c =
    let now = c.gathering.invariant in
    let pool = c.gathering.pool.items in
    let k = gathered c.gathering.blocks.items c.join_at-block.new.blocks.items c.gathering.b c.gathering-test.true now.within c.join_at-block.ensures.rows now.filled now.dense in
    record {
      within = k.within;
      spans = k.spans ∙ now.spans;
      filled = k.filled;
      empty = subst AreEmpty (sym c.push_reserved.ensures.items) (empty_push pool c.join_at-block.result now.empty c.join_at-block.ensures.empty);
      dense = k.dense;
      len = omega (arith, k.len, ap length c.push_reserved.ensures.items, one_more pool c.join_at-block.result, now.len);
      capacity = c.join_at-block.ensures.capacity ∙ now.capacity;
      pool_capacity = c.push_reserved.ensures.capacity ∙ now.pool_capacity;
    }

pub gathering-preserved : goal.gathering-preserved
gathering-preserved c =
    let now = c.gathering.invariant in
    let rows = c.gathering.blocks.items in
    let many : 512 < length (row rows (c.gathering.b - 1 - 1)) + length (row rows (c.gathering.b - 1 - 1 + 1)) = omega (arith, c.len_at.ensures.value, c.len_at-in-gathering.ensures.value, c.if-len_at-le-LONG.false) in
    record {
      within = omega (arith, now.within);
      spans = now.spans;
      filled = now.filled;
      empty = now.empty;
      dense = gathered_none rows c.gathering.b c.gathering-test.true now.within many now.dense;
      len = now.len;
      capacity = now.capacity;
      pool_capacity = now.pool_capacity;
    }
