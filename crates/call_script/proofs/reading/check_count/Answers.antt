use Rattle.std.proofs.Common.{arith}
use Rattle.call_script.specs.Script.{at_most}
use Rattle.call_script.proofs.Members.{count_view}
use Rattle.call_script.proofs.reading.check_count.Goals as goal

pub returns-then-items-most : goal.returns-then-items-most
unfolding at_most
returns-then-items-most c = rw (count_view c.args.items.now) (grind arith)

pub returns-else-items-most : goal.returns-else-items-most
unfolding at_most
returns-else-items-most c = rw (count_view c.args.items.now) (grind arith)
