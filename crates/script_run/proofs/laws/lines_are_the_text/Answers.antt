use Rattle.script_run.proofs.PutLines.{concat-entries}
use Rattle.script_run.proofs.TextLines.{concat-lines}
use Rattle.script_run.proofs.laws.lines_are_the_text.Goals as goal

pub returns : goal.returns
returns c = record { text = concat-lines; journal = concat-entries }
