use Rattle.mse_commands.proofs.PlayedCuts.{cuts_played}
use Rattle.mse_commands.proofs.program_laws.cuts_alike.Goals as goal

pub returns : goal.returns
returns c = λ ways script blobs cuts steps room are s t. cuts_played ways script blobs cuts steps room are s t
