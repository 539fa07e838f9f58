use Rattle.std.proofs.Common.{length, sym, ap, arith}
use Rattle.bmff_write.proofs.MovieSizes.{edts_none}
use Rattle.bmff_write.proofs.track.edts_len.Goals as goal

pub returns-then-is_empty-clause-size : goal.returns-then-is_empty-clause-size
returns-then-is_empty-clause-size c = sym (ap length (edts_none c.args.edits.now (grind arith)))
