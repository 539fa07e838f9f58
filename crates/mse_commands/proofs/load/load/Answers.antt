use Rattle.std.proofs.Common.{[], ◌∷◌}
use Rattle.mse_commands.proofs.FailedLoads.{failed_one, loaded_one, not_failed}
use Rattle.mse_commands.proofs.LoadedFiles.{load_failed}
use Rattle.mse_commands.proofs.load.load.Goals as goal

pub returns-in-Failed-clause-early_end : goal.returns-in-Failed-clause-early_end
returns-in-Failed-clause-early_end g c =
    load_failed (g.L.Library.table c.args.library.now) (g.L.Library.faults c.args.library.now) (g.L.Library.faults c.load.new.self) c.args.name.now c.failed_read.result
    (c.load.ensures.cause c.in-Failed.is) c.failed_read.ensures

pub returns-in-Done-clause-loads : goal.returns-in-Done-clause-loads
returns-in-Done-clause-loads g c = loaded_one g.L.Library.load_gives c.args.name.now c.args.library.now c.load.new.self (rw c.in-Done.is at c.load.ensures.gives)

pub returns-in-NoFile-clause-failed_load : goal.returns-in-NoFile-clause-failed_load
returns-in-NoFile-clause-failed_load g c = λ other e.
    not_failed g.L.Library.load_gives (c.args.name.now ∷ []) c.args.name.now other c.args.library.now c.load.new.self c.no_file.result c.no_file.ensures e

pub returns-in-Failed-clause-failed_load : goal.returns-in-Failed-clause-failed_load
returns-in-Failed-clause-failed_load g c = λ other e.
    failed_one g.L.Library.load_gives c.args.name.now other c.args.library.now c.load.new.self c.failed_read.result (rw c.in-Failed.is at c.load.ensures.gives) c.failed_read.ensures e
