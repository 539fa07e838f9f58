use Rattle.std.proofs.Common.{◌≡◌, ◌++◌, List, ℕ, drop}
use Rattle.script_run.specs.Text.{lines_of}
use Rattle.script_run.specs.Writes.{IsWritten}
use Rattle.script_run.proofs.put.put_entries.Given as goal

abbrev pub invariant-loop-i : goal.invariant-loop-i
invariant-loop-i g l = record {
  same_faults : g.K.Sink.faults l.sink ≡ g.K.Sink.faults l.fn.sink;
  wrote : (front : List (List ℕ)) × IsWritten front (g.K.Sink.written l.fn.sink) (g.K.Sink.written l.sink)
      × (lines_of (drop l.from l.journal.entries) ≡ front ++ lines_of (drop l.i l.journal.entries));
}
