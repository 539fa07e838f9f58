use Rattle.mse_commands.proofs.DrainEnds.{drained_rests}
use Rattle.mse_commands.proofs.program_laws.drain_ends.Goals as goal

pub returns : goal.returns
returns c = λ blobs p stop. drained_rests blobs p stop
