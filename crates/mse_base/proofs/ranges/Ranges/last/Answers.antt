use Rattle.std.proofs.Common.{arith}
use Rattle.mse_base.proofs.RangeLookUps.{last_some}
use Rattle.mse_base.proofs.ranges.Ranges.last.Goals as goal

pub returns-else-len-eq0 : goal.returns-else-len-eq0
returns-else-len-eq0 c = rw (← c.self.view_is) (last_some c.self.inside.spans.spans _ c.get.result (omega (arith, c.len-len.ensures, c.if-len-eq0.false)) c.get.ensures)
