use Rattle.std.proofs.Common.{◌∙◌, ap, arith}
use Rattle.std.specs.List.{concat}
use Rattle.adts_stream.specs.Headers.{found_at}
use Rattle.adts_stream.proofs.HeaderLaws.{first-ten}
use Rattle.adts_stream.proofs.walk.found_in.Goals as goal

pub returns-then-len-ge-MOST : goal.returns-then-len-ge-MOST
returns-then-len-ge-MOST c = c.judge.ensures ∙ ap found_at c.read.ensures ∙ first-ten (concat c.args.input.now) (omega arith)
