use Rattle.std.proofs.Common.{◌≡◌, None}
use Rattle.stream_tests.proofs.tests.containers.take_all.Given as goal

abbrev pub invariant-items : goal.invariant-items
invariant-items l = record {
  none_offered : l.stream.offered ≡ None;
  fed : l.stream.fed ≡ l.initial.stream.fed;
}
