use Rattle.mse_commands.proofs.OwnJournals.{script_own}
use Rattle.mse_commands.proofs.program_laws.own_journal.Goals as goal

pub returns : goal.returns
returns c = λ ways script blobs. script_own ways script blobs
