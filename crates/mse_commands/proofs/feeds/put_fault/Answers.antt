use Rattle.mse_commands.proofs.feeds.put_fault.Goals as goal

pub returns-in-Ok-clause-err : goal.returns-in-Ok-clause-err
returns-in-Ok-clause-err g c = rw (c.in-Some.is, ← c.in-Ok.ensures, ← c.as_str.ensures, ← c.as_bytes.ensures.value) c.put_bytes.ensures.err
