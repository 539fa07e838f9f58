use Rattle.std.proofs.Common.{◌≡◌, ◌+◌, ◌-◌, length, arith}
use Rattle.mse_base.proofs.InRows.{filled_row, start_all, start_more}
use Rattle.mse_base.proofs.BlockStarts.{row_there}
use Rattle.mse_base.proofs.block_starts.place_of.Goals as goal

pub returns-then-i-eq0-clause-index : goal.returns-then-i-eq0-clause-index
returns-then-i-eq0-clause-index c =
    let rows = c.args.blocks.now.items in
    filled_row rows 0 c.requires.filled (row_there rows 0 (omega (arith, c.requires.len, c.requires.within)))

pub returns-then-from_end-last_len-clause-rank : goal.returns-then-from_end-last_len-clause-rank
returns-then-from_end-last_len-clause-rank c =
    let rows = c.args.blocks.now.items in
    let last = c.len-last.result - 1 in
    let some = row_there rows 0 (omega (arith, c.requires.len, c.requires.within)) in
    let end : last + 1 ≡ length rows = omega (arith, some, c.len-last.ensures) in
    omega (arith, start_more rows last (omega (arith, end)), start_all rows (last + 1) end, c.len_at-last_len.ensures.value, c.requires.len, c.requires.within, c.if-from_end-last_len.true)
