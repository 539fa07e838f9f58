use Rattle.mse_commands.proofs.ByWays.{by_ways_of}
use Rattle.mse_commands.proofs.program_laws.by_ways.Goals as goal

pub returns : goal.returns
returns g c = λ ways e b. by_ways_of _ _ _ ways c.args.listeners.now e b
