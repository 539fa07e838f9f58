use Rattle.std.proofs.Common.{◌+◌, length, arith}
use Rattle.mse_base.proofs.SpanEnds.{some_free}
use Rattle.mse_base.proofs.span_blocks.refill.Goals as goal

pub returns-then-is_empty-clause-some : goal.returns-then-is_empty-clause-some
returns-then-is_empty-clause-some c = some_free c.args.blocks.now.items c.gather.new.blocks.items (length c.args.blocks.now.items + length c.args.pool.now.items) (length c.gather.new.pool.items) c.gather.ensures.dense c.gather.ensures.spans (omega (arith, c.gather.ensures.len)) c.requires.enough
