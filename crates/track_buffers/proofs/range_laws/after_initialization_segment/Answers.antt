use Rattle.track_buffers.proofs.HighestEnd.{highest_end_after_init, media_after_refused_init}
use Rattle.track_buffers.proofs.range_laws.after_initialization_segment.Goals as goal

pub returns-clause-taken : goal.returns-clause-taken
returns-clause-taken c = highest_end_after_init

pub returns-clause-refused : goal.returns-clause-refused
returns-clause-refused c = media_after_refused_init
