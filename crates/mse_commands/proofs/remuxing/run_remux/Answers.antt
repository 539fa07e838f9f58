use Rattle.mse_commands.proofs.DoneTasks.{remux_not_loaded, remux_stops, remux_works}
use Rattle.mse_commands.proofs.FailedLoads.{remux_failed}
use Rattle.mse_commands.proofs.remuxing.run_remux.Goals as goal

pub returns-in-Err-clause-works : goal.returns-in-Err-clause-works
returns-in-Err-clause-works g c = λ count told given.
    remux_not_loaded (g.L.Library.table c.args.library.now) (g.L.Library.faults c.args.library.now) (g.L.Library.faults c.load.new.library) c.args.name.now c.in-Err.end
    (g.K.Sink.written c.args.sink.now) count told given c.in-Err.ensures.early_end

pub returns-in-Ok-put_remuxed-clause-works : goal.returns-in-Ok-put_remuxed-clause-works
returns-in-Ok-put_remuxed-clause-works g c = λ count told given.
    remux_works (g.L.Library.table c.args.library.now) (g.L.Library.faults c.args.library.now) (g.L.Library.faults c.load.new.library) c.args.name.now c.in-Ok.file.items
    (g.K.Sink.written c.args.sink.now) (g.K.Sink.written c.put_remuxed.new.sink) count told given c.in-Ok-put_remuxed.is_broken c.in-Ok.ensures.ok
    c.in-Ok-put_remuxed.ensures.wrote c.in-Ok-put_remuxed.ensures.ok

pub returns-in-Err-put_remuxed-clause-works : goal.returns-in-Err-put_remuxed-clause-works
returns-in-Err-put_remuxed-clause-works g c = λ count told given.
    rw c.of_halt.ensures (remux_stops (g.L.Library.table c.args.library.now) (g.L.Library.faults c.args.library.now) (g.L.Library.faults c.load.new.library) c.args.name.now c.in-Ok.file.items
    (g.K.Sink.written c.args.sink.now) (g.K.Sink.written c.put_remuxed.new.sink) count told given c.in-Err-put_remuxed.halt c.in-Ok.ensures.ok
    c.in-Err-put_remuxed.ensures.err)

pub returns-in-Err-clause-failed_load : goal.returns-in-Err-clause-failed_load
returns-in-Err-clause-failed_load g c = λ other e.
    remux_failed g.L.Library.load_gives (g.L.Library.table c.args.library.now) c.args.name.now other c.args.library.now c.load.new.library (c.in-Err.ensures.failed_load other (cc (e)))
