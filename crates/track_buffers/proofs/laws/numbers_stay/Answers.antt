use Rattle.track_buffers.proofs.Numbers.{number_kept, kind_kept}
use Rattle.track_buffers.proofs.laws.numbers_stay.Goals as goal

pub returns-clause-kept : goal.returns-clause-kept
returns-clause-kept c = number_kept

pub returns-clause-kind : goal.returns-clause-kind
returns-clause-kind c = kind_kept
