use Rattle.std.proofs.Common.{ap, ◌∙◌}
use Rattle.byte_stream.specs.Streams.{StreamView, ready_of}
use Rattle.byte_stream.proofs.KeptStreams.{ready-is}
use Rattle.byte_stream.proofs.stream.ByteStream.ready_frames.Goals as goal

pub returns-clause-ready : goal.returns-clause-ready
returns-clause-ready c = λ r h. c.ready_frames.ensures.ready ∙ ap (λ (s : StreamView). ready_of s) c.self.view_is ∙ ready-is c.args.self.now.parser r.container r.string h.parser
