use Rattle.listeners.proofs.EventNumbers.{numbers_differ}
use Rattle.listeners.proofs.laws.numbers_tell_events.Goals as goal

pub returns : goal.returns
returns c = numbers_differ
