use Rattle.source_buffers.proofs.Refusals.{refused, told}
use Rattle.source_buffers.proofs.laws.refusals.Goals as goal

pub returns-clause-refused : goal.returns-clause-refused
returns-clause-refused c call k name a bs = refused call k name a bs

pub returns-clause-told : goal.returns-clause-told
returns-clause-told c call k name a bs = told call k name a bs
