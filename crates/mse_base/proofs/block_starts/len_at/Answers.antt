use Rattle.std.proofs.Common.{◌∙◌, ap, length}
use Rattle.mse_base.proofs.InRows.{row_is}
use Rattle.mse_base.proofs.block_starts.len_at.Goals as goal

pub returns-clause-value : goal.returns-clause-value
returns-clause-value c = c.len.ensures.value ∙ ap length (row_is c.args.blocks.now.items c.args.b c.index-block.result.now c.requires c.index-block.ensures)
