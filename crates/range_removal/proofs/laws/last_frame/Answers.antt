use Rattle.std.proofs.Common.{false}
use Rattle.range_removal.proofs.Ends.{cleared-last}
use Rattle.range_removal.proofs.laws.last_frame.Goals as goal

pub returns-clause-last : goal.returns-clause-last
returns-clause-last c = λ named fs f. cleared-last named false fs f
