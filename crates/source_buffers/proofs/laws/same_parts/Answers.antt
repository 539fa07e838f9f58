use Rattle.source_buffers.proofs.KeptParts.{same_length, same_media, same_running}
use Rattle.source_buffers.proofs.laws.same_parts.Goals as goal

pub returns-clause-count : goal.returns-clause-count
returns-clause-count c = same_length

pub returns-clause-media : goal.returns-clause-media
returns-clause-media c = same_media

pub returns-clause-running : goal.returns-clause-running
returns-clause-running c = same_running
