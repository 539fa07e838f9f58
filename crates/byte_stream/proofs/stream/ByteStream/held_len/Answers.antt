use Rattle.std.proofs.Common.{length, ap, ◌∙◌}
use Rattle.byte_stream.specs.Streams.{StreamView, held_of}
use Rattle.byte_stream.proofs.KeptStreams.{held-is}
use Rattle.byte_stream.proofs.stream.ByteStream.held_len.Goals as goal

pub returns-clause-held : goal.returns-clause-held
returns-clause-held c = λ r h. c.held_len.ensures ∙ ap (λ (s : StreamView). length (held_of s)) c.self.view_is ∙ ap length (held-is c.args.self.now.parser r.container r.string h.parser)
