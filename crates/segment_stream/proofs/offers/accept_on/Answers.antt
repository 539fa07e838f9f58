use Rattle.std.proofs.Common.{ap, ◌∙◌}
use Rattle.std.specs.List.{concat}
use Rattle.input_chunks.proofs.Rows.{bytes-without}
use Rattle.segment_stream.proofs.Found.{accepted-kept, accepted-rest}
use Rattle.segment_stream.proofs.offers.accept_on.Goals as goal

pub returns-clause-at_front : goal.returns-clause-at_front
returns-clause-at_front c = λ last tables f w. accepted-rest last c.args.progress tables (concat c.args.input.now) _ (ap concat c.drop_front.ensures ∙ bytes-without c.args.progress.from c.args.input.now) f w

pub returns-clause-kept : goal.returns-clause-kept
returns-clause-kept c = λ last tables. accepted-kept last c.args.progress tables (concat c.args.input.now) _ (ap concat c.drop_front.ensures ∙ bytes-without c.args.progress.from c.args.input.now)
