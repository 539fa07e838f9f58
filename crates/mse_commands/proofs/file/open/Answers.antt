use Rattle.mse_commands.proofs.FileAppends.{opened, opened_half, opened_none}
use Rattle.mse_commands.proofs.file.open.Goals as goal

pub returns-in_default-clause-err : goal.returns-in_default-clause-err
returns-in_default-clause-err g c = rw c.in_default.ensures.err (opened_none c.args.blobs.now c.args.run.now)

pub returns-in_default-copy_of-clause-err : goal.returns-in_default-copy_of-clause-err
returns-in_default-copy_of-clause-err g c = opened_half c.args.blobs.now c.args.run.now c.call.new.self c.in-Ok.ensures.ok

pub returns-in_default-call-clause-err : goal.returns-in_default-call-clause-err
returns-in_default-call-clause-err g c = rw c.in_default-call.ensures.err (opened_half c.args.blobs.now c.args.run.now c.call.new.self c.in-Ok.ensures.ok)

pub returns-clause-ok : goal.returns-clause-ok
returns-clause-ok g c =
    opened c.args.blobs.now c.in-Ok-copy_of.kind c.args.run.now c.call.new.self c.call-2.new.self c.in-Ok.ensures.ok c.in-Ok-copy_of.ensures c.in-Ok-call.ensures.ok
