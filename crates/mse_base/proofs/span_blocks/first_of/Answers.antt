use Rattle.std.proofs.Common.{arith}
use Rattle.mse_base.proofs.InRows.{filled_row, row_within}
use Rattle.mse_base.proofs.span_blocks.first_of.Goals as goal

pub span_at-requires-clause-index : goal.span_at-requires-clause-index
span_at-requires-clause-index c = filled_row c.args.blocks.now.items c.args.b c.requires.filled c.requires.block

pub returns-clause-within : goal.returns-clause-within
returns-clause-within c = omega (arith, filled_row c.args.blocks.now.items c.args.b c.requires.filled c.requires.block, row_within c.args.blocks.now.items c.args.b c.requires.block)
