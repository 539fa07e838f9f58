use Rattle.std.proofs.Common.{◌+◌, ap, ◌∙◌, arith}
use Rattle.std.specs.List.{concat}
use Rattle.segment_walk.proofs.Heads.{head-long, head-none}
use Rattle.segment_walk.proofs.next_step.header_at.Goals as goal

pub returns-then-place-len-clause-value : goal.returns-then-place-len-clause-value
returns-then-place-len-clause-value c = head-none (concat c.args.input.now) (c.args.from + c.from.result) c.args.from c.args.at (ap (λ n. c.args.from + n) c.from.ensures) (omega arith)

pub returns-then-len_left-ge16-clause-value : goal.returns-then-len_left-ge16-clause-value
returns-then-len_left-ge16-clause-value c = c.header.ensures.value ∙ head-long (concat c.args.input.now) _ (c.args.from + c.from.result) c.args.from c.args.at (ap (λ n. c.args.from + n) c.from.ensures) (omega arith) c.read.ensures
