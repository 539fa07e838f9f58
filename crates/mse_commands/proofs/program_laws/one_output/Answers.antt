use Rattle.mse_commands.proofs.OneOutput.{one_file}
use Rattle.mse_commands.proofs.program_laws.one_output.Goals as goal

pub returns : goal.returns
returns c = λ ways files a b bytes one short. one_file ways files a b bytes one short
