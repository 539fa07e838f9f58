use Rattle.source_buffers.proofs.SlotLookUps.{element_buffered}
use Rattle.source_buffers.proofs.laws.element_law.Goals as goal

pub returns : goal.returns
returns c = element_buffered
