use Rattle.script_run.specs.Text.{lines_of_entry}
use Rattle.run_journal.specs.EntryRef.{entry_of}
use Rattle.script_run.proofs.PutLines.{entry_size, front_none, short_none}
use Rattle.script_run.proofs.put.put_entry.Goals as goal

pub returns-in-Err-clause-err : goal.returns-in-Err-clause-err
returns-in-Err-clause-err g c = front_none (g.K.Sink.written c.args.sink.now) (lines_of_entry (entry_of c.args.entry.now))

pub returns-in-Err-clause-short : goal.returns-in-Err-clause-short
returns-in-Err-clause-short g c = λ e. short_none (g.K.Sink.written c.args.sink.now) (lines_of_entry (entry_of c.args.entry.now)) (entry_size (entry_of c.args.entry.now) c.in-Err.ensures.err)
