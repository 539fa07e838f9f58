use Rattle.std.proofs.Common.{◌≡◌, None}
use Rattle.stream_tests.proofs.tests.containers.payloads_by.Given as goal

abbrev pub invariant-pieces : goal.invariant-pieces
invariant-pieces g l = l.stream.offered ≡ None
