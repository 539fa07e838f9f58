use Rattle.std.proofs.Common.{◌≡◌}
use Rattle.std.specs.Prelude.{Some}
use Rattle.buffer_state.proofs.buffer.Buffer.call.Goals as goal

pub returns-in-Append-Some-clause-done : goal.returns-in-Append-Some-clause-done
returns-in-Append-Some-clause-done g c =
    let there : c.in-Append-Some.field-0 ≡ Some c.in-Append-Some.bytes = rw c.in-Append-Some.is at c.in-Append-Some.field-0-is in
    rw (c.in-Append-Some.is, there) c.append.ensures.done
