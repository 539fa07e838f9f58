use Rattle.std.proofs.Common.{ap, ◌∙◌}
use Rattle.byte_stream.specs.Streams.{StreamView, phase_of}
use Rattle.byte_stream.proofs.KeptStreams.{phase-is}
use Rattle.byte_stream.proofs.stream.ByteStream.phase.Goals as goal

pub returns-clause-phase : goal.returns-clause-phase
returns-clause-phase c = λ r h. c.phase.ensures ∙ ap (λ (s : StreamView). phase_of s) c.self.view_is ∙ phase-is c.args.self.now.parser r.container r.string h.parser
