use Rattle.std.proofs.Common.{◌<ℤ◌, arith}
use Rattle.std.proofs.lemmas.Int.{ints}
use Rattle.mse_base.proofs.RangeLookUps.{not_here}
use Rattle.mse_base.proofs.lookup.span_holding.Goals as goal

pub returns-else-le-2 : goal.returns-else-le-2
returns-else-le-2 c =
    let late : c.args.t <ℤ c.get-first.result.start = grind (arith, ints, c.le-then-le.ensures, c.if-le-2.false) in
    not_here c.args.t c.args.ranges.now.spans 0 c.get-first.result c.requires (omega (arith, c.len-len.ensures, c.if-len-eq0.false)) c.get-first.ensures late tt
