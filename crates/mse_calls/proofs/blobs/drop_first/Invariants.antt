use Rattle.std.proofs.Common.{◌≡◌, drop}
use Rattle.mse_calls.proofs.blobs.drop_first.Given as goal

abbrev pub invariant-blobs : goal.invariant-blobs
invariant-blobs l = l.blobs.items ≡ drop l.counter l.fn.blobs.items
