use Rattle.media_element.proofs.Raised.{no_seek, nothing_sought, raised}
use Rattle.media_element.proofs.laws.raised_duration.Goals as goal

pub returns-clause-no_seek : goal.returns-clause-no_seek
returns-clause-no_seek c = no_seek

pub returns-clause-blank : goal.returns-clause-blank
returns-clause-blank c = nothing_sought

pub returns-clause-raised : goal.returns-clause-raised
returns-clause-raised c = raised
