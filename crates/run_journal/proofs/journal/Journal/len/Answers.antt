use Rattle.std.proofs.Common.{◌∙◌, sym}
use Rattle.run_journal.specs.EntryPlaces.{entry_at}
use Rattle.run_journal.proofs.CountedPlaces.{spread-count}
use Rattle.run_journal.proofs.journal.Journal.len.Goals as goal

pub returns : goal.returns
returns c = rw (← c.self.view_is) (c.len.ensures ∙ sym (spread-count (entry_at c.self.inside.calls.list c.self.inside.pieces.items) c.self.inside.places.list))
