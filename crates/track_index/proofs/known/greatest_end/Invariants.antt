use Rattle.std.proofs.Common.{◌≡◌, take}
use Rattle.track_index.specs.Known.{greatest_end}
use Rattle.track_index.proofs.known.greatest_end.Given as goal

abbrev pub invariant-loop-entry : goal.invariant-loop-entry
invariant-loop-entry l = l.best ≡ greatest_end (take l.entry-index l.items)
