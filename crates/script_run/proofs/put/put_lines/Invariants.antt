use Rattle.std.proofs.Common.{◌≡◌, ◌++◌, List, ℕ}
use Rattle.std.specs.Str.Iter.{split_inclusive_pattern, split_inclusive_text}
use Rattle.script_run.specs.Text.{lines_in}
use Rattle.script_run.specs.Writes.{IsWritten}
use Rattle.script_run.proofs.put.put_lines.Given as goal

-- the lines that were put, with those that are left, are all
abbrev pub invariant-loop-line : goal.invariant-loop-line
invariant-loop-line g l = record {
  wrote : (front : List (List ℕ)) × IsWritten front (g.K.Sink.written l.initial.sink) (g.K.Sink.written l.sink) × (front ++ lines_in (split_inclusive_text l.line-iterator) ≡ lines_in l.text);
  cut : split_inclusive_pattern l.line-iterator ≡ 10;
  same_faults : g.K.Sink.faults l.sink ≡ g.K.Sink.faults l.initial.sink;
}
