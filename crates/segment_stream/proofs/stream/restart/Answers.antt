use Rattle.std.proofs.Common.{ap, ◌∙◌}
use Rattle.input_chunks.specs.Pieces.{pieces_without_first}
use Rattle.segment_stream.proofs.StreamLaws.{all-gone}
use Rattle.segment_stream.proofs.stream.restart.Goals as goal

pub returns-clause-input : goal.returns-clause-input
returns-clause-input c = c.drop_front.ensures ∙ ap (λ n. pieces_without_first n c.args.input.now) c.len-all.ensures ∙ all-gone c.args.input.now
