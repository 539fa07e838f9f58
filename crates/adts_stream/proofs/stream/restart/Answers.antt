use Rattle.std.proofs.Common.{◌∙◌, ap, arith}
use Rattle.std.specs.List.{concat}
use Rattle.std.proofs.lemmas.List.{drop_all}
use Rattle.input_chunks.proofs.Rows.{bytes-without}
use Rattle.adts_stream.proofs.stream.restart.Goals as goal

pub returns-clause-input : goal.returns-clause-input
returns-clause-input c = ap concat c.drop_front.ensures ∙ bytes-without c.len-all.result c.args.input.now ∙ drop_all c.len-all.result (concat c.args.input.now) (omega arith)
