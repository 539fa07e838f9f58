use Rattle.std.proofs.Common.{◌≡◌, None}
use Rattle.stream_tests.proofs.tests.containers.play.Given as goal

abbrev pub invariant-steps : goal.invariant-steps
invariant-steps g l = l.stream.offered ≡ None
