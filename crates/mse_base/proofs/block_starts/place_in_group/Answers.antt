use Rattle.std.proofs.Common.{◌≡◌, ◌*◌, ◌≤◌, length, arith}
use Rattle.mse_base.specs.Rows.{row}
use Rattle.mse_base.proofs.InRows.{rows_behind, start_more}
use Rattle.mse_base.proofs.BlockStarts.{row_there}
use Rattle.mse_base.proofs.block_starts.place_in_group.Goals as goal

pub walk-init : goal.walk-init
walk-init c =
    let group = c.group_of-group.result in
    let z : group * 32 ≡ 32 * group = omega arith in
    rw z (record {
      within = row_there c.args.blocks.now.items (32 * group) (omega (arith, c.group_of-group.ensures.before, c.requires.within));
      rank = omega (arith, c.group_start.ensures, c.group_of-group.ensures.before);
    })

pub walk-preserved : goal.walk-preserved
walk-preserved c =
    let rows = c.args.blocks.now.items in
    let low : length (row rows c.walk.block) ≤ c.walk.index = omega (arith, c.len_at-len.ensures.value, c.if-index-len.false) in
    record {
      within = rows_behind rows c.walk.block c.walk.invariant.within (omega (arith, low, c.walk.invariant.rank, c.requires.within));
      rank = omega (arith, start_more rows c.walk.block c.walk.invariant.within, c.len_at-len.ensures.value, low, c.walk.invariant.rank);
    }
