use Rattle.mse_commands.proofs.Outputs.{run_ends, run_journal}
use Rattle.mse_commands.proofs.program_laws.one_program.Goals as goal

pub returns-clause-ends : goal.returns-clause-ends
returns-clause-ends c = λ ways files words outcome end q w. run_ends ways files words outcome end q w

pub returns-clause-journal : goal.returns-clause-journal
returns-clause-journal c = λ ways files words script blobs outcome end is q w. run_journal ways files words script blobs outcome end is q w
