use Rattle.cut_law.proofs.Examples.{needs-awaited, needs-cut-room}
use Rattle.cut_law.proofs.LongBlobs.{needs-whole-room}
use Rattle.cut_law.proofs.laws.needed_premises.Goals as goal

pub returns-clause-awaited : goal.returns-clause-awaited
returns-clause-awaited c = λ f. needs-awaited f

pub returns-clause-cut_has_room : goal.returns-clause-cut_has_room
returns-clause-cut_has_room c = λ f. needs-cut-room f

pub returns-clause-whole_has_room : goal.returns-clause-whole_has_room
returns-clause-whole_has_room c = λ f. needs-whole-room f
