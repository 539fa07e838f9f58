use Rattle.std.proofs.Common.{Some}
use Rattle.case_runs.proofs.ways.closing.Goals as goal

pub returns-in-Some : goal.returns-in-Some
returns-in-Some c =
    let split = c.in-Some.ensures.cases in
    (Some (split.0, split.1), split.2, split.4)
