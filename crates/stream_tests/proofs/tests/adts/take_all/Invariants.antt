use Rattle.std.proofs.Common.{◌≡◌, None}
use Rattle.stream_tests.proofs.tests.adts.take_all.Given as goal

abbrev pub invariant-loop : goal.invariant-loop
invariant-loop l = record {
  none_offered : l.stream.offered ≡ None;
  fed : l.stream.fed ≡ l.initial.stream.fed;
}
