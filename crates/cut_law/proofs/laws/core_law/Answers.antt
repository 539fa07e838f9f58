use Rattle.cut_law.proofs.Journals.{same-entry, same-line}
use Rattle.cut_law.proofs.laws.core_law.Goals as goal

pub returns-clause-entry : goal.returns-clause-entry
returns-clause-entry c = λ blobs a b entry e room. same-entry blobs a b entry e room

pub returns-clause-line : goal.returns-clause-line
returns-clause-line c = λ blobs a b line e room. same-line blobs a b line e room
