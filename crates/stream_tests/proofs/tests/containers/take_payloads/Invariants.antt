use Rattle.std.proofs.Common.{◌≡◌, None}
use Rattle.stream_tests.proofs.tests.containers.take_payloads.Given as goal

abbrev pub invariant-items : goal.invariant-items
invariant-items g l = l.stream.offered ≡ None
