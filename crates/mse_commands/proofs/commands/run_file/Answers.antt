use Rattle.std.proofs.Common.{◌≡◌, ◌∙◌, ap, []}
use Rattle.run_journal.specs.JournalView.{JournalView}
use Rattle.mse_commands.proofs.DoneTasks.{file_not_loaded, file_works}
use Rattle.mse_commands.proofs.FailedLoads.{error_of, file_failed}
use Rattle.mse_commands.proofs.commands.run_file.Goals as goal

pub returns-in-Err-clause-works : goal.returns-in-Err-clause-works
returns-in-Err-clause-works g c = λ count told given.
    file_not_loaded (g.L.Library.table c.args.library.now) (g.L.Library.faults c.args.library.now) (g.L.Library.faults c.file_for.new.library) c.args.name.now c.args.command c.in-Err.end
    c.args.journal.now.entries c.args.engine.now (g.K.Sink.written c.args.sink.now) count told given c.requires.file c.in-Err.ensures.unmade c.requires.no_entries c.requires.no_engine c.in-Err.ensures.early_end

pub returns-clause-works : goal.returns-clause-works
returns-clause-works g c = λ count told given.
    let stands = rw c.zero.ensures at c.new-run.ensures.engine in
    let fresh : c.new-run.result.entries ≡ [] = c.new-run.ensures.entries ∙ ap (λ (b : JournalView). b.entries) c.replace-entries.ensures.value ∙ c.requires.no_entries in
    rw (c.hand_out.ensures.entries, c.hand_out.ensures.engine)
    (file_works (g.L.Library.table c.args.library.now) (g.L.Library.faults c.args.library.now) (g.L.Library.faults c.file_for.new.library) c.args.name.now c.in-Ok.file.items c.args.command
    c.new-run.result c.show_file-result.new.run (g.K.Sink.written c.args.sink.now) (g.K.Sink.written c.show_file-result.new.sink) count told given c.show_file-result.result
    c.requires.file c.in-Ok.ensures.made c.in-Ok.ensures.ok stands fresh c.show_file-result.ensures.shows)

pub returns-in-Err-clause-failed_load : goal.returns-in-Err-clause-failed_load
returns-in-Err-clause-failed_load g c = λ other e.
    file_failed g.L.Library.load_gives (g.L.Library.table c.args.library.now) c.args.name.now c.args.command c.in-Err.end other c.args.library.now c.file_for.new.library c.requires.file
    c.in-Err.ensures.unmade (error_of c.in-Err.end other e) (c.in-Err.ensures.failed_load other (cc (e)))
