use Rattle.std.proofs.Common.{◌∙◌}
use Rattle.std.proofs.lemmas.Result.{err_from_is_err_and}
use Rattle.run_journal.specs.EntryRef.{entry_of}
use Rattle.script_run.proofs.PutLines.{entry_put, entry_failed, entry_short}
use Rattle.script_run.proofs.put.put_entries.Goals as goal

pub returns-in_err-put_entry-clause-err : goal.returns-in_err-put_entry-clause-err
returns-in_err-put_entry-clause-err g c =
    let p = err_from_is_err_and c.from_residual.result c.from_residual.ensures.1 in
    rw p.1 (entry_failed c.args.journal.now.entries c.loop-i.i (entry_of c.in-Some.entry) _ _ _ _ c.in-Some.ensures c.loop-i.invariant.wrote c.in_err-put_entry.ensures.err)

pub returns-in_err-put_entry-clause-short : goal.returns-in_err-put_entry-clause-short
returns-in_err-put_entry-clause-short g c =
    let p = err_from_is_err_and c.from_residual.result c.from_residual.ensures.1 in
    rw (p.1, p.2) (λ e. entry_short c.args.journal.now.entries c.loop-i.i (entry_of c.in-Some.entry) _ (g.K.Sink.written c.args.sink.now) (g.K.Sink.written c.loop-i.sink) (g.K.Sink.written c.put_entry.new.sink) c.in-Some.ensures c.loop-i.invariant.wrote (c.in_err-put_entry.ensures.short e))

pub loop-i-preserved : goal.loop-i-preserved
loop-i-preserved g c = record {
  same_faults = c.in_ok-put_entry.ensures.puts.told (λ e. cc) ∙ c.loop-i.invariant.same_faults;
  wrote = entry_put c.args.journal.now.entries c.loop-i.i (entry_of c.in-Some.entry) _ _ _ _ c.in-Some.ensures c.loop-i.invariant.wrote c.in_ok-put_entry.ensures.ok;
}
